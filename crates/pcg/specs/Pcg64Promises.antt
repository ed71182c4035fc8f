-- What each public call promises of its answer: the contracts of src/, by name.
use Rattle.std.specs.Prelude.{◌≡◌, ℕ, List}
use Rattle.wrapping.specs.Wide.{value}
use Rattle.wrapping.specs.declared.wide.Wide.{Wide}
use Rattle.pcg.specs.Pcg64.{default_stream, drawn, drawn_high, parts, seeded, seeded_bytes}
use Rattle.source.specs.declared.Drawn.{Drawn}
use Rattle.pcg.specs.declared.pcg64.Pcg64.{Pcg64}

-- `from_parts`: the generator with this state and the increment in use
abbrev pub Pcg64FromPartsPromise : Wide → Wide → Pcg64 → Type 0
Pcg64FromPartsPromise state inc r = r ≡ parts state inc

-- `from_seed_stream`: the generator of a seed number and a stream
abbrev pub Pcg64FromSeedStreamPromise : Wide → Wide → Pcg64 → Type 0
Pcg64FromSeedStreamPromise seed stream r = r ≡ seeded (value seed) (value stream)

-- `from_u128_seed`: the generator of a seed number and the default stream
abbrev pub Pcg64FromU128SeedPromise : Wide → Pcg64 → Type 0
Pcg64FromU128SeedPromise seed r = r ≡ seeded (value seed) default_stream

-- `from_seed`: the seed and then the stream out of the bytes, the low bit of the stream set
abbrev pub Pcg64FromSeedPromise : List ℕ → Pcg64 → Type 0
Pcg64FromSeedPromise seed r = r ≡ seeded_bytes seed

-- `next_u64`: the old state's word, and the generator after it
abbrev pub Pcg64NextU64Promise : Pcg64 → Drawn ℕ Pcg64 → Type 0
Pcg64NextU64Promise self r = r ≡ drawn self

-- `next_u32`: the high half of that word, and the generator after it
abbrev pub Pcg64NextU32Promise : Pcg64 → Drawn ℕ Pcg64 → Type 0
Pcg64NextU32Promise self r = r ≡ drawn_high self
