-- Making a generator (document 01, "When the unit says no"): from its kind's own parts, and from a kind number and a byte seed. The seeding
-- itself is each kind's own definition. What a kind does not use is zeros.
use Rattle.std.specs.Prelude.{ℕ, cond, List, leb, eqb, length, replicate}
use Rattle.mersenne_twister.specs.declared.MersenneTwister as twister_type
use Rattle.mersenne_twister.specs.Table as twister
use Rattle.pcg.specs.Pcg32 as pcg32
use Rattle.pcg.specs.Pcg64 as pcg64
use Rattle.pcg.specs.declared.pcg32.Pcg32 as pcg32_type
use Rattle.pcg.specs.declared.pcg64.Pcg64 as pcg64_type
use Rattle.words.specs.Refusal as refusal
use Rattle.xoshiro.specs.Generator as xoshiro
use Rattle.xoshiro.specs.Seed as xoshiro_seed
use Rattle.xoshiro.specs.declared.Xoshiro256PlusPlus as xoshiro_type
use Rattle.random.specs.declared.backend.Backend.TheVariants.{Xoshiro256PlusPlus, MersenneTwister, Pcg32, Pcg64}
use Rattle.random.specs.declared.backend.Random.{Random}
use Rattle.making.specs.declared.bytes.Made as code
use Rattle.words.specs.Numbers.{refusal_in}

-- the twister that stands beside a kind with no use for it: zeros
abbrev pub zero_twister : twister_type.MersenneTwister
zero_twister = twister.held (replicate 624 0) 0

-- ---- of each kind's own parts

-- kind 0
abbrev pub of_xoshiro : xoshiro_type.Xoshiro256PlusPlus → Random
of_xoshiro x = record { backend = Xoshiro256PlusPlus x; twister = zero_twister }

-- kind 1
abbrev pub of_twister : twister_type.MersenneTwister → Random
of_twister t = record { backend = MersenneTwister; twister = t }

-- kind 2
abbrev pub of_pcg32 : pcg32_type.Pcg32 → Random
of_pcg32 p = record { backend = Pcg32 p; twister = zero_twister }

-- kind 3
abbrev pub of_pcg64 : pcg64_type.Pcg64 → Random
of_pcg64 p = record { backend = Pcg64 p; twister = zero_twister }

-- "kind 0 with four zero words"
abbrev pub zero_generator : Random
zero_generator = of_xoshiro (xoshiro.parts 0 0 0 0)

-- ---- of a kind number and a byte seed: 32, 32, 16 and 32 bytes for kinds 0 to 3

-- the length of a kind's byte seed
abbrev pub seed_length_of : ℕ → ℕ
seed_length_of kind = cond (eqb kind 2) 16 32

-- the generator of a kind from its bytes; a kind above 3 is not asked for
unfoldable pub of_kind : ℕ → List ℕ → Random
of_kind kind s =
    cond (eqb kind 0) (of_xoshiro (xoshiro_seed.seeded_bytes s))
    (cond (eqb kind 1) (of_twister (twister.seeded (twister.folded s)))
    (cond (eqb kind 2) (of_pcg32 (pcg32.seeded_bytes s)) (of_pcg64 (pcg64.seeded_bytes s))))

-- What a making says in document 01's numbers: the refusal's, 0 where there is none, and the generator.
pub record Made : Type 0 where
  pub refusal : ℕ
  pub generator : Random

-- one of the code
abbrev pub making_of : code.Made → Made
making_of m = record { refusal = refusal_in m.refusal; generator = m.generator }

-- a refusal with this number
abbrev pub refused_making : ℕ → Made
refused_making number = record { refusal = number; generator = zero_generator }

-- and a generator that was made
abbrev pub answered_making : Random → Made
answered_making g = record { refusal = refusal.answered; generator = g }

-- 10 where the kind is above 3, then 11 where the seed has not the kind's length
unfoldable pub made_bytes : ℕ → List ℕ → Made
made_bytes kind s =
    cond (leb kind 3)
    (cond (eqb (length s) (seed_length_of kind)) (answered_making (of_kind kind s)) (refused_making refusal.seed_length))
    (refused_making refusal.kind)
