-- What follows of `bool`'s definitions: a chance is a p with 0 ≤ p ≤ 1, and the refusal is 3 exactly where p is NaN, below 0 or above
-- 1 (document 01, "When the unit says no"). The order is IEEE 754's, over the whole numbers.
use Rattle.std.specs.Prelude.{◌≡◌, ◌↔◌, ◌⊎◌, ℕ, Bool, true, false, not, ◌&&◌, cond, Float}
use Rattle.std.proofs.Math.Path.{refl}
use Rattle.std.proofs.Common.{sym, ap, ◌∙◌, inl, inr, arith}
use Rattle.std.proofs.Math.Bool.{not-not, and-true}
use Rattle.std.proofs.lemmas.Bool.{false≢true, not-true}
use Rattle.std.specs.Float.{nan, inf, fin}
use Rattle.std.specs.Float.Ieee.{lt, le, is_nan}
use Rattle.words.specs.Refusal.{chance}
use Rattle.floats.specs.Units.{double_of}
use Rattle.floats.specs.Chances.{is_chance, chance_refusal, coin_of}
use Rattle.floats.specs.OrderLaws.{zero_float, one_float, total}
use Rattle.floats.specs.OrderLaws.{negative_below_zero, positive_not_below_zero, negative_not_above_one, one_below}

-- ---- the code's two tests
pub is_chance_tests : (p : Float) → is_chance p ≡ (le zero_float p && le p one_float)
unfolding is_chance
is_chance_tests nan = unfold le in refl
is_chance_tests (inf true) = unfold le in refl
is_chance_tests (inf false) = unfold le in refl
is_chance_tests (fin true m e) =
    let p = fin true m e in
    let below = negative_below_zero m e in
    rw (total p zero_float refl refl, total one_float p refl refl, below, negative_not_above_one m e, and-true, not-not)
is_chance_tests (fin false m e) =
    let p = fin false m e in
    rw (total p zero_float refl refl, total one_float p refl refl, positive_not_below_zero m e, one_below m e, not-not)

-- ---- the refusal, both ways
-- NaN, below 0 or above 1
abbrev pub Outside : Float → Type 0
Outside p = (is_nan p ≡ true) ⊎ (lt p zero_float ≡ true) ⊎ (lt one_float p ≡ true)

no_chance : (p : Float) → is_chance p ≡ false → Outside p
unfolding is_chance
no_chance nan h = inl (unfold is_nan in refl)
no_chance (inf true) h = inr (inl (unfold lt in refl))
no_chance (inf false) h = inr (inr (unfold lt in refl))
no_chance (fin true m e) h = inr (inl (negative_below_zero m e ∙ ap not h))
no_chance (fin false m e) h = inr (inr (one_below m e ∙ ap not h))

outside : (p : Float) → Outside p → is_chance p ≡ false
unfolding is_chance is_nan
outside nan o = refl
outside (inf s) o = refl
outside (fin s m e) (inl q) = absurd (false≢true q)
outside (fin true m e) (inr (inl q)) = not-true _ (sym (negative_below_zero m e) ∙ q)
outside (fin true m e) (inr (inr q)) = absurd (false≢true (sym (negative_not_above_one m e) ∙ q))
outside (fin false m e) (inr (inl q)) = absurd (false≢true (sym (positive_not_below_zero m e) ∙ q))
outside (fin false m e) (inr (inr q)) = not-true _ (sym (one_below m e) ∙ q)

no_refusal : (b : Bool) → cond b 0 chance ≡ 0 → b ≡ true
no_refusal true h = refl
no_refusal false h = absurd (omega arith)

refusal : (b : Bool) → cond b 0 chance ≡ chance → b ≡ false
refusal true h = absurd (omega arith)
refusal false h = refl

-- 3 exactly where p is NaN, below 0 or above 1
pub chance_refused : (p : Float) → (chance_refusal p ≡ chance) ↔ Outside p
chance_refused p = (λ h. no_chance p (refusal (is_chance p) h), λ o. rw (outside p o))

-- and none exactly where 0 ≤ p ≤ 1
pub chance_taken : (p : Float) → (chance_refusal p ≡ 0) ↔ ((le zero_float p && le p one_float) ≡ true)
chance_taken p = (λ h. sym (is_chance_tests p) ∙ no_refusal (is_chance p) h, λ h. rw (is_chance_tests p ∙ h))

-- ---- the coin by the refusal, which no word has a part in
pub coin_taken : (p : Float) (word : ℕ) → chance_refusal p ≡ 0 → coin_of p word ≡ record { refusal = 0; value = lt (double_of word) p }
coin_taken p word h = rw (no_refusal (is_chance p) h)

pub coin_refused : (p : Float) (word : ℕ) → (chance_refusal p ≡ 0 → ⊥) → coin_of p word ≡ record { refusal = chance; value = false }
coin_refused p word h = go (is_chance p) refl
  where
    go : (b : Bool) → is_chance p ≡ b → coin_of p word ≡ record { refusal = chance; value = false }
    go true e = absurd (h (rw e))
    go false e = rw e
