-- The entries of the table and the position have 32 bits, as the code's have: a generator that is seeded has such parts, and a draw, a
-- twist or another position keeps them.
use Rattle.std.specs.Prelude.{ℕ, zero, suc, ◌*◌, ◌^◌, ◌<◌, ◌≤◌, List}
use Rattle.std.proofs.Math.Decide.{dec_le}
use Rattle.std.proofs.Common.{lt_of_not-le, arith, lit<}
use Rattle.std.proofs.lemmas.Nat.{xor_lt}
use Rattle.wrapping.specs.Bytes.{AreBytes}
use Rattle.wrapping.specs.BytesLaws.{little_lt}
use Rattle.mersenne_twister.specs.declared.MersenneTwister.{MersenneTwister}
use Rattle.mersenne_twister.specs.Bounds.{Words, seed_word_lt, words_seeded, words_stored, words_renewed, words_drawn}
use Rattle.mersenne_twister.specs.DrawLaws.{in_low, in_high}
use Rattle.mersenne_twister.specs.Sequence.{seed_word}
use Rattle.mersenne_twister.specs.Table.{held, stored_position, seeded, seeded_in, twisted_in, drawn, words_xored, folded}

-- every entry has 32 bits, and so has the position
pub record Sized (g : MersenneTwister) : Type 0 where
  pub table : Words g.mt
  pub position : g.mti < 2 ^ 32

-- a draw leaves a position of at most 624,
pub position_drawn : (g : MersenneTwister) → (drawn g).next.mti ≤ 624
position_drawn g =
    elim (dec_le 624 g.mti) [
      | yes h ↦ rw (in_high g.mt g.mti h) (omega arith)
      | no h ↦ let low = lt_of_not-le h in rw (in_low g.mt g.mti low) (omega arith)
    ]

-- and keeps the sizes
pub sized_drawn : (g : MersenneTwister) → Sized g → Sized (drawn g).next
sized_drawn g h = record { table = words_drawn g h.table; position = omega (arith, position_drawn g) }

-- so does a twist,
pub sized_twisted : (t : List ℕ) → Words t → Sized (twisted_in t)
sized_twisted t w = record { table = words_renewed 624 t w; position = omega arith }

-- and a position that is set
pub sized_stored : (t : List ℕ) (p : ℕ) → Words t → Sized (held t (stored_position p))
sized_stored t p w = record { table = w; position = omega arith }

-- the generator of a seed number of 32 bits,
pub sized_seeded : (s : ℕ) → s < 2 ^ 32 → Sized (seeded s)
sized_seeded s h = record { table = words_seeded s h; position = omega arith }

-- and the same in place
pub sized_seeded_in : (t : List ℕ) (s : ℕ) → Words t → s < 2 ^ 32 → Sized (seeded_in t s)
sized_seeded_in t s w h = record { table = words_stored (seed_word s) 624 t (λ i. seed_word_lt s i h) w; position = omega arith }

-- 32 bytes come to such a number
pub folded_lt : (b : List ℕ) → AreBytes b → folded b < 2 ^ 32
unfolding words_xored
folded_lt b h = xored 8
  where
    xored : (n : ℕ) → words_xored n b < 2 ^ 32
    xored zero = lit< tt
    xored (suc n) = xor_lt 32 (words_xored n b) _ (xored n) (little_lt 4 b (4 * n) h)
