-- What each public call promises of its answer: the contracts of src/, by name.
use Rattle.std.specs.Prelude.{◌≡◌, ℕ, List}
use Rattle.pcg.specs.Pcg32.{default_stream, drawn, drawn_twice, parts, seeded, seeded_bytes}
use Rattle.source.specs.declared.Drawn.{Drawn}
use Rattle.pcg.specs.declared.pcg32.Pcg32.{Pcg32}

-- `from_parts`: the generator with this state and the increment in use
abbrev pub Pcg32FromPartsPromise : ℕ → ℕ → Pcg32 → Type 0
Pcg32FromPartsPromise state inc r = r ≡ parts state inc

-- `from_seed_stream`: the generator of a seed number and a stream
abbrev pub Pcg32FromSeedStreamPromise : ℕ → ℕ → Pcg32 → Type 0
Pcg32FromSeedStreamPromise seed stream r = r ≡ seeded seed stream

-- `from_u64_seed`: the generator of a seed number and the default stream
abbrev pub Pcg32FromU64SeedPromise : ℕ → Pcg32 → Type 0
Pcg32FromU64SeedPromise seed r = r ≡ seeded seed default_stream

-- `from_seed`: the seed and then the stream out of the bytes, the low bit of the stream set
abbrev pub Pcg32FromSeedPromise : List ℕ → Pcg32 → Type 0
Pcg32FromSeedPromise seed r = r ≡ seeded_bytes seed

-- `next_u32`: the old state's word, and the generator after it
abbrev pub Pcg32NextU32Promise : Pcg32 → Drawn ℕ Pcg32 → Type 0
Pcg32NextU32Promise self r = r ≡ drawn self

-- `next_u64`: two words as one, the low one first, and the generator after them
abbrev pub Pcg32NextU64Promise : Pcg32 → Drawn ℕ Pcg32 → Type 0
Pcg32NextU64Promise self r = r ≡ drawn_twice self
