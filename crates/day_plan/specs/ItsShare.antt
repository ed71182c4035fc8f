-- "each inlet to have exactly its share" (the order): in a day that is planned, every inlet stands once, a blank stands in as many slots as
-- there are blanks, and nothing else stands in any slot.
use Rattle.std.specs.Prelude.{◌≡◌, refl, List, [], ◌∷◌, ◌++◌, length, replicate}
use Rattle.std.proofs.Common.{◌∙◌, ap, append-nil, lt_of_not-le, arith, eq-eqb, ne_eqb}
use Prim.Native.Nat.{ℕ, zero, suc, ◌+◌, ◌-◌, ◌≤◌, ◌<◌, min}
use Rattle.std.proofs.Math.Decide.{dec_le}
use Rattle.words.specs.Refusal.{answered}
use Rattle.words.specs.Draw.{Words}
use Rattle.shuffle.specs.Shuffle.{shuffle_by}
use Rattle.shuffle.specs.SameEntries.{one, how_many, same_entries}
use Rattle.day_plan.specs.Day.{blank, inlets_from, laid_out, planned_day}
use Rattle.day_plan.specs.DayLaws.{plan_answered}

-- What a day of so many inlets and blanks owes.
pub record Shares (inlets blanks : ℕ) (day : List ℕ) : Type 0 where
  pub each_inlet : (x : ℕ) → 0 < x → x ≤ inlets → how_many x day ≡ 1
  pub blanks_as_many : how_many blank day ≡ blanks
  pub nothing_else : (x : ℕ) → inlets < x → how_many x day ≡ 0

-- ---- how often a number stands in a day laid out

here : (x y : ℕ) → x ≡ y → one x y ≡ 1
here x y h = rw (eq-eqb x y h)

elsewhere : (x y : ℕ) → (x ≡ y → ⊥) → one x y ≡ 0
elsewhere x y h = rw (ne_eqb x y h)

how_many_append : (x : ℕ) (l m : List ℕ) → how_many x (l ++ m) ≡ how_many x l + how_many x m
unfolding how_many
how_many_append x [] m = omega arith
how_many_append x (y ∷ l) m = omega (arith, how_many_append x l m)

blanks_of_blanks : (n : ℕ) → how_many blank (replicate n blank) ≡ n
unfolding how_many
blanks_of_blanks zero = refl
blanks_of_blanks (suc n) = omega (arith, here blank blank refl, blanks_of_blanks n)

inlet_of_blanks : (x n : ℕ) → 0 < x → how_many x (replicate n blank) ≡ 0
unfolding how_many
inlet_of_blanks x zero h = refl
inlet_of_blanks x (suc n) h = omega (arith, elsewhere x blank (λ z. omega arith), inlet_of_blanks x n h)

below_inlets : (x k n : ℕ) → x < k → how_many x (inlets_from k n) ≡ 0
unfolding how_many inlets_from
below_inlets x k zero h = refl
below_inlets x k (suc n) h = omega (arith, elsewhere x k (λ z. omega arith), below_inlets x (k + 1) n (omega arith))

above_inlets : (x k n : ℕ) → k + n ≤ x → how_many x (inlets_from k n) ≡ 0
unfolding how_many inlets_from
above_inlets x k zero h = refl
above_inlets x k (suc n) h = omega (arith, elsewhere x k (λ z. omega arith), above_inlets x (k + 1) n (omega arith))

among_inlets : (x k n : ℕ) → k ≤ x → x < k + n → how_many x (inlets_from k n) ≡ 1
unfolding how_many inlets_from
among_inlets x k zero l h = absurd (omega arith)
among_inlets x k (suc n) l h =
    elim (dec_le x k) [
      | yes m ↦ omega (arith, here x k (omega arith), below_inlets x (k + 1) n (omega arith))
      | no m ↦
          let past = lt_of_not-le m in
          omega (arith, elsewhere x k (λ z. omega arith), among_inlets x (k + 1) n (omega arith) (omega arith))
    ]

module _ (inlets blanks : ℕ) where
  -- A day laid out has these shares.
  pub laid_shares : Shares inlets blanks (laid_out blanks (inlets + blanks))
  unfolding laid_out
  laid_shares = record {
    each_inlet = λ x p q. omega (arith, split x, inlet_of_blanks x b p, among_inlets x 1 i p (omega arith));
    blanks_as_many = omega (arith, split blank, blanks_of_blanks b, below_inlets blank 1 i (omega arith));
    nothing_else = λ x q. omega (arith, split x, inlet_of_blanks x b (omega arith), above_inlets x 1 i (omega arith));
  }
    where
      b : ℕ
      b = min blanks (inlets + blanks)

      i : ℕ
      i = inlets + blanks - blanks

      split : (x : ℕ) → how_many x (replicate b blank ++ inlets_from 1 i) ≡ how_many x (replicate b blank) + how_many x (inlets_from 1 i)
      split x = how_many_append x (replicate b blank) (inlets_from 1 i)

-- more blanks than slots: every slot is a blank
pub all_blanks : (blanks n : ℕ) → n ≤ blanks → laid_out blanks n ≡ replicate n blank
unfolding laid_out inlets_from
all_blanks blanks n h =
    let some : min blanks n ≡ n = omega arith in
    let none : n - blanks ≡ 0 = omega arith in
    rw (some, none) (append-nil (replicate n blank))

-- ---- a shuffle has the same entries: so the plan has these shares, whatever the words

-- In a day that is planned, of as many slots as inlets and blanks, each has its share.
pub each_has_its_share : (s : Words) (inlets blanks : ℕ) (l : List ℕ) (budget : ℕ) → length l ≡ inlets + blanks
    → (shuffle_by s (length l) budget).refusal ≡ answered → Shares inlets blanks (planned_day s blanks l budget)
each_has_its_share s inlets blanks l budget e a = record {
  each_inlet = λ x p q. same x ∙ (laid_shares inlets blanks).each_inlet x p q;
  blanks_as_many = same blank ∙ (laid_shares inlets blanks).blanks_as_many;
  nothing_else = λ x q. same x ∙ (laid_shares inlets blanks).nothing_else x q;
}
  where
    same : (x : ℕ) → how_many x (planned_day s blanks l budget) ≡ how_many x (laid_out blanks (inlets + blanks))
    same x = ap (how_many x) (plan_answered s blanks l budget a) ∙ same_entries s (laid_out blanks (length l)) budget x
        ∙ ap (λ (n : ℕ). how_many x (laid_out blanks n)) e
