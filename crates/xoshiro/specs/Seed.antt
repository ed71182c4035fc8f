-- Seeding (document 01, "xoshiro.rs"): four words of SplitMix64, as the authors advise; a seed number of 0 is replaced.
use Rattle.std.specs.Prelude.{ℕ, Bool, true, false, List, ◌==◌, bit_xor}
use Rattle.wrapping.specs.Bytes.{little}
use Rattle.xoshiro.specs.declared.Xoshiro256PlusPlus.{Xoshiro256PlusPlus}
use Rattle.xoshiro.specs.Generator.{parts}
use Rattle.xoshiro.specs.SplitMix64.{next_state, mixed}

-- the number that stands in for 0: the one place that says so
abbrev pub replaced : (is_zero : Bool) (seed : ℕ) → ℕ
replaced true seed = 0xBAD1_DEAA_5BD1_CAFE
replaced false seed = seed

-- a seed number, 0 replaced
abbrev pub nonzero_seed : ℕ → ℕ
nonzero_seed seed = replaced (seed == 0) seed

-- the first four words of SplitMix64 from a state
unfoldable pub four_words : ℕ → Xoshiro256PlusPlus
four_words x =
    let a = next_state x in
    let b = next_state a in
    let c = next_state b in
    let d = next_state c in
    parts (mixed a) (mixed b) (mixed c) (mixed d)

-- the generator of a seed number
abbrev pub seeded : ℕ → Xoshiro256PlusPlus
seeded seed = four_words (nonzero_seed seed)

-- 32 bytes: four little-endian words, XORed, are the seed number
abbrev pub xor_of_words : List ℕ → ℕ
xor_of_words s = bit_xor (bit_xor (bit_xor (little 8 s 0) (little 8 s 8)) (little 8 s 16)) (little 8 s 24)

-- the generator of a byte seed
abbrev pub seeded_bytes : List ℕ → Xoshiro256PlusPlus
seeded_bytes s = seeded (xor_of_words s)
