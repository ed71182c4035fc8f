-- Every maker hands out a generator whose parts are sized, and `seed` keeps them so.
use Rattle.std.specs.Prelude.{Bool, cond, List, ℕ, ◌^◌, ◌≤◌, ◌<◌, eqb, leb, length, get_or, replicate}
use Rattle.std.proofs.Math.Bool.{true, false}
use Rattle.std.proofs.Math.Decide.{dec_le}
use Rattle.std.proofs.Common.{lt_of_not-le, arith, lit<}
use Rattle.std.proofs.lemmas.List.{length-replicate, get_or-replicate}
use Rattle.std.proofs.Math.ListN.{get_or-eq_default}
use Rattle.wrapping.specs.Bytes.{AreBytes, little}
use Rattle.mersenne_twister.specs.declared.MersenneTwister as twister_type
use Rattle.mersenne_twister.specs.SizedParts as twister
use Rattle.mersenne_twister.specs.Table as table
use Rattle.pcg.specs.declared.pcg32.Pcg32 as pcg32_type
use Rattle.pcg.specs.declared.pcg64.Pcg64 as pcg64_type
use Rattle.pcg.specs.Lcg.{low_bit_set}
use Rattle.pcg.specs.Pcg32 as pcg32
use Rattle.pcg.specs.Pcg64 as pcg64
use Rattle.pcg.specs.SizedParts as pcg
use Rattle.pcg.proofs.SizedParts as pcg_laws
use Rattle.xoshiro.specs.declared.Xoshiro256PlusPlus as xoshiro_type
use Rattle.xoshiro.specs.Seed as xoshiro_seed
use Rattle.xoshiro.specs.SizedParts as xoshiro
use Rattle.random.specs.SizedParts.{SizedSmall, Sized}
use Rattle.random.specs.declared.backend.Backend.{Backend}
use Rattle.random.specs.declared.backend.Backend.TheVariants.{Xoshiro256PlusPlus, MersenneTwister, Pcg32, Pcg64}
use Rattle.random.specs.declared.backend.Random.{Random}
use Rattle.words.specs.Refusal as refusal
use Rattle.making.specs.Make.{zero_twister, zero_generator, of_xoshiro, of_twister, of_pcg32, of_pcg64, seed_length_of, of_kind}
use Rattle.making.specs.Make.{refused_making, answered_making, made_bytes}
use Rattle.making.specs.Seeding.{seeded_by, seeded_to}

-- ---- from sized parts; the seedings of each kind have such parts

-- the twister beside a kind with no use for it
zeros_sized : twister.Sized zero_twister
zeros_sized = record { table = zero; position = lit< tt }
  where
    zeros : List ℕ
    zeros = replicate 624 0

    zero : (j : ℕ) → get_or zeros j 0 < 2 ^ 32
    zero j =
        elim (dec_le 624 j) [
          | yes h ↦
              let past : length zeros ≤ j = omega (arith, length-replicate {A = ℕ} 624 0) in
              rw (get_or-eq_default zeros 0 past) (lit< tt)
          | no h ↦ rw (get_or-replicate {A = ℕ} 624 j 0 0 (lt_of_not-le h)) (lit< tt)
        ]

-- kind 0,
pub sized_xoshiro : (x : xoshiro_type.Xoshiro256PlusPlus) → xoshiro.Sized x → Sized (of_xoshiro x)
sized_xoshiro x h = record { small = h; beside = zeros_sized }

-- kind 1,
pub sized_twister : (t : twister_type.MersenneTwister) → twister.Sized t → Sized (of_twister t)
sized_twister t h = record { small = tt; beside = h }

-- kind 2,
pub sized_pcg32 : (p : pcg32_type.Pcg32) → pcg.Sized32 p → Sized (of_pcg32 p)
sized_pcg32 p h = record { small = h; beside = zeros_sized }

-- and kind 3
pub sized_pcg64 : (p : pcg64_type.Pcg64) → pcg.Sized64 p → Sized (of_pcg64 p)
sized_pcg64 p h = record { small = h; beside = zeros_sized }

-- ---- from bytes, a refused making too

-- what a refused making hands out
pub zero_generator_lem : Sized zero_generator
zero_generator_lem = sized_xoshiro _ (record { s0 = lit< tt; s1 = lit< tt; s2 = lit< tt; s3 = lit< tt })

module _ (s : List ℕ) (bytes : AreBytes s) where
  sized_kind : (kind : ℕ) → Sized (of_kind kind s)
  unfolding of_kind
  sized_kind kind = go (eqb kind 0) (eqb kind 1) (eqb kind 2)
    where
      go : (a b c : Bool)
          → Sized (cond a (of_xoshiro (xoshiro_seed.seeded_bytes s))
          (cond b (of_twister (table.seeded (table.folded s)))
          (cond c (of_pcg32 (pcg32.seeded_bytes s)) (of_pcg64 (pcg64.seeded_bytes s)))))
      go true b c = sized_xoshiro _ (xoshiro.sized_seeded (xoshiro_seed.xor_of_words s))
      go false true c = sized_twister _ (twister.sized_seeded (table.folded s) (twister.folded_lt s bytes))
      go false false true = sized_pcg32 _ (pcg_laws.sized_seeded32 (little 8 s 0) (low_bit_set (little 8 s 8)))
      go false false false = sized_pcg64 _ (pcg_laws.sized_seeded64 (little 16 s 0) (low_bit_set (little 16 s 16)))

  -- `make`, of any kind number and any bytes
  pub sized_made : (kind : ℕ) → Sized (made_bytes kind s).generator
  unfolding made_bytes
  sized_made kind = go (leb kind 3) (eqb (length s) (seed_length_of kind))
    where
      go : (known whole : Bool)
          → Sized (cond known (cond whole (answered_making (of_kind kind s)) (refused_making refusal.seed_length))
          (refused_making refusal.kind)).generator
      go true true = sized_kind kind
      go true false = zero_generator_lem
      go false whole = zero_generator_lem

-- ---- seeded anew

sized_by : (b : Backend) (t : twister_type.MersenneTwister) (s : ℕ) → SizedSmall b → twister.Sized t → s < 2 ^ 32 → Sized (seeded_by b t s)
sized_by (Xoshiro256PlusPlus x) t s h l f = record { small = xoshiro.sized_seeded s; beside = l }
sized_by MersenneTwister t s h l f = record { small = tt; beside = twister.sized_seeded_in t.mt s l.table f }
sized_by (Pcg32 p) t s h l f = record { small = pcg_laws.sized_seeded32 s pcg32.default_stream; beside = l }
sized_by (Pcg64 p) t s h l f = record { small = pcg_laws.sized_seeded64 s pcg64.default_stream; beside = l }

-- `seed`, with a seed of 32 bits
pub sized_seeded : (g : Random) (s : ℕ) → Sized g → s < 2 ^ 32 → Sized (seeded_to g s)
unfolding seeded_to
sized_seeded g s h f = sized_by g.backend g.twister s h.small h.beside f
