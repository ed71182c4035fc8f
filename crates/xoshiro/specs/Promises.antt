-- What each public call promises of its answer: the contracts of src/, by name.
use Rattle.std.specs.Prelude.{◌≡◌, ℕ, List}
use Rattle.xoshiro.specs.Generator.{drawn, drawn_high, parts}
use Rattle.xoshiro.specs.Jump.{jumped}
use Rattle.xoshiro.specs.Seed.{seeded, seeded_bytes}
use Rattle.source.specs.declared.Drawn.{Drawn}
use Rattle.xoshiro.specs.declared.Xoshiro256PlusPlus.{Xoshiro256PlusPlus}

-- `from_parts`: the state with these words
abbrev pub XoshiroFromPartsPromise : ℕ → ℕ → ℕ → ℕ → Xoshiro256PlusPlus → Type 0
XoshiroFromPartsPromise s0 s1 s2 s3 r = r ≡ parts s0 s1 s2 s3

-- `from_u64_seed`: four words of SplitMix64 from the seed number, 0 replaced
abbrev pub XoshiroFromU64SeedPromise : ℕ → Xoshiro256PlusPlus → Type 0
XoshiroFromU64SeedPromise seed r = r ≡ seeded seed

-- `from_seed`: the generator of the bytes' four words, XORed
abbrev pub XoshiroFromSeedPromise : List ℕ → Xoshiro256PlusPlus → Type 0
XoshiroFromSeedPromise seed r = r ≡ seeded_bytes seed

-- `next_u64`: the old state's word, and the state after it
abbrev pub XoshiroNextU64Promise : Xoshiro256PlusPlus → Drawn ℕ Xoshiro256PlusPlus → Type 0
XoshiroNextU64Promise self r = r ≡ drawn self

-- `next_u32`: the high half of that word, and the state after it
abbrev pub XoshiroNextU32Promise : Xoshiro256PlusPlus → Drawn ℕ Xoshiro256PlusPlus → Type 0
XoshiroNextU32Promise self r = r ≡ drawn_high self

-- `jump`: the authors' jump
abbrev pub XoshiroJumpPromise : Xoshiro256PlusPlus → Xoshiro256PlusPlus → Type 0
XoshiroJumpPromise self r = r ≡ jumped self
