-- The laws of draws: one draw, draws in a row, and words of 64 bits.
use Rattle.std.specs.Prelude.{◌≡◌, ℕ, zero, suc, ◌+◌, ◌*◌, ◌^◌, ◌<◌, ◌≤◌, List, length, refl}
use Rattle.std.proofs.Common.{ap, ◌∙◌, add-zero, add-suc, lt_of_not-le, lt-ltb, le-ltb}
use Rattle.std.proofs.Math.Decide.{dec_le}
use Rattle.mersenne_twister.specs.declared.MersenneTwister.{MersenneTwister}
use Rattle.source.specs.declared.Drawn.{Drawn}
use Rattle.mersenne_twister.specs.Table.{renewed, drawn_at, drawn_in, drawn, drawn64, after, word_of}
use Rattle.mersenne_twister.specs.TableLaws.{length_renewed}

-- ---- one draw, below the end of the table and past it

pub in_low : (t : List ℕ) (p : ℕ) → p < 624 → drawn_in t p ≡ drawn_at t p
unfolding drawn_in
in_low t p h = rw (lt-ltb p 624 h)

pub in_high : (t : List ℕ) (p : ℕ) → 624 ≤ p → drawn_in t p ≡ drawn_at (renewed 624 t) 0
unfolding drawn_in
in_high t p h = rw (le-ltb p 624 h)

-- a draw keeps the length of the table
pub length_next : (g : MersenneTwister) → length (drawn g).next.mt ≡ length g.mt
length_next g =
    elim (dec_le 624 g.mti) [
      | yes h ↦ rw (in_high g.mt g.mti h) (length_renewed 624 g.mt)
      | no h ↦ rw (in_low g.mt g.mti (lt_of_not-le h))
    ]

-- ---- draws in a row

-- n draws and then m are n + m
pub after_add : (n m : ℕ) (g : MersenneTwister) → after (n + m) g ≡ after m (after n g)
unfolding after
after_add n zero g = ap (λ (k : ℕ). after k g) (add-zero n)
after_add n (suc m) g = ap (λ (k : ℕ). after k g) (add-suc n m) ∙ ap (λ (h : MersenneTwister). (drawn h).next) (after_add n m g)

-- draws in a row keep the length of the table
pub length_after : (n : ℕ) (g : MersenneTwister) → length (after n g).mt ≡ length g.mt
unfolding after
length_after zero g = refl
length_after (suc n) g = length_next (after n g) ∙ length_after n g

-- a word of 64 bits is the next two words, the first of them high
pub word64_is : (g : MersenneTwister) → (drawn64 g).word ≡ word_of g 0 * 2 ^ 32 + word_of g 1
unfolding drawn64 word_of after
word64_is g = refl

-- two draws, one after the other, make it
pub drawn64_is : (g : MersenneTwister) (first second : Drawn ℕ MersenneTwister) (w : ℕ) → first ≡ drawn g → second ≡ drawn first.next
    → w ≡ first.word * 2 ^ 32 + second.word → record { word = w; next = second.next } ≡ drawn64 g
unfolding drawn64
drawn64_is g first second w p q e = rw (e, q, p)
