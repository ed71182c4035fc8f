-- The least remainder of a good word, 2^32 mod r, as the code works it out; and the word whose remainder is above r, which is good
-- without it.
use Rattle.std.specs.Prelude.{◌≡◌, true, false, ℕ, zero, suc, ◌-◌, ◌*◌, ◌%◌, ◌^◌, ◌<◌, ◌≤◌, leb}
use Rattle.std.proofs.Common.{◌∙◌, arith, mod-lt, eq-eqb, ne_eqb}
use Rattle.std.proofs.Math.Nat.{mod-eq-sub-mod}
use Rattle.words.specs.Draw.{good}
use Rattle.words.proofs.GoodWord.{passes_good, fails_bad, fails_for_zero}
use Rattle.words.specs.Threshold.{threshold}

pub threshold_zero : (r : ℕ) → r ≡ 0 → threshold r ≡ 0
threshold_zero r z = rw (eq-eqb r 0 z)

pub threshold_positive : (r : ℕ) → 0 < r → threshold r ≡ 2 ^ 32 % r
threshold_positive r h =
    let n : r ≡ 0 → ⊥ = λ z. omega arith in
    rw (ne_eqb r 0 n)

-- The Rust's form, `r.wrapping_neg() % r`: it is the same number.
pub threshold_of_negative : (r : ℕ) → 0 < r → r ≤ 2 ^ 32 → threshold r ≡ (2 ^ 32 - r) % r
threshold_of_negative r h fits = threshold_positive r h ∙ mod-eq-sub-mod fits

-- No word is good for 0.
pub none_for_zero : (r w : ℕ) → r ≡ 0 → good r w ≡ false
none_for_zero r w z = rw z (fails_bad 0 w (fails_for_zero w))

-- How the code tells whether a word w is good, by its product p with r: a remainder above r is enough, since 2^32 mod r is below r,
-- and where r is 0 no remainder is above it;
pub good_above : (r w p : ℕ) → p ≡ w * r → r < p % 2 ^ 32 → good r w ≡ true
good_above zero w p product h = absurd (omega (arith, product))
good_above (suc n) w p product h =
    let small : 2 ^ 32 % suc n < suc n = mod-lt (2 ^ 32) (omega arith) in
    passes_good (suc n) w (rw (← product) (omega arith))

-- any other is compared with 2^32 mod r.
pub good_by_threshold : (r w p : ℕ) → p ≡ w * r → 0 < r → good r w ≡ leb (threshold r) (p % 2 ^ 32)
good_by_threshold r w p product pos = rw (← product, threshold_positive r pos)
