-- For code that draws below r from any source of words, one word after the other: what holds while no word was good (`Searching`), and what
-- such a draw tells at its end (`Told`), with one law for each way through the loop.
use Rattle.std.specs.Prelude.{◌≡◌, refl, Bool, true, false, cond, ℕ, ◌+◌, ◌≤◌, ◌<◌, leb, eqb}
use Rattle.std.proofs.Common.{sym, ◌∙◌, ap, ap₂, true≢false, arith, eq-eqb, ne_eqb, leb-true, leb-false}
use Rattle.words.specs.Refusal.{out_of_budget}
use Rattle.words.specs.Draw.{Words, good, quotient, refused, gives, bounded_by}
use Rattle.words.specs.GoodWord.{Fails, FirstGood, NoneGood, Looked, some_good}
use Rattle.words.proofs.GoodWord.{good_passes, bad_fails, fails_for_zero}
use Rattle.words.specs.GoodWord.{none_good}
use Rattle.words.proofs.GoodWord.{look, first_found, none_found}
use Rattle.words.specs.OneOutcome.{out_of_budget_lem}
use Rattle.words.proofs.OneOutcome.{bounded_only}
use Rattle.words.proofs.AnswerIsFirst.{first_is_answer}
use Rattle.words.specs.DrawLoop.{Told, Searching, found_of, value_of, taken_of}

pub searching_start : {s : Words} {r budget : ℕ} → Searching s r budget 0
searching_start = record { within_budget = omega arith; none_yet = λ j h. absurd (omega arith) }

-- A draw below 0 looks at no word.
pub told_zero : {s : Words} {r budget : ℕ} → r ≡ 0 → Told s r budget false 0 0
told_zero {s} {r} {budget} z =
    let none : NoneGood s r budget = λ j h. rw z (fails_for_zero (s j)) in
    let e = none_found s r budget none in
    let t : cond (eqb r 0) 0 budget ≡ 0 = rw (eq-eqb r 0 z) in
    record { found = rw e; value = rw e; taken = rw (e, t) }

module _ {s : Words} {r budget used : ℕ} (h : Searching s r budget used) where
  -- w is the next word, and b tells whether it is good: it settles the draw,
  pub searching_good : {w v : ℕ} {b : Bool} → used < budget → w ≡ s used → b ≡ good r w → b ≡ true → v ≡ quotient r w
      → Told s r budget true v (used + 1)
  searching_good {w} u e g t q =
      let passes = good_passes r (s used) (ap (good r) (sym e) ∙ sym g ∙ t) in
      let f = first_found s r budget (record { among = u; passes = passes; none_before = h.none_yet }) in
      record { found = rw f; value = rw f (q ∙ ap (quotient r) e); taken = rw f }

  -- or the search goes on,
  pub searching_bad : {w : ℕ} {b : Bool} → used < budget → w ≡ s used → b ≡ good r w → b ≡ false → Searching s r budget (used + 1)
  searching_bad {w} u e g t = record { within_budget = omega arith; none_yet = none_yet }
    where
      fails : Fails r (s used)
      fails = bad_fails r (s used) (ap (good r) (sym e) ∙ sym g ∙ t)

      none_yet : NoneGood s r (used + 1)
      none_yet j k = go (leb used j) refl
        where
          go : (z : Bool) → leb used j ≡ z → Fails r (s j)
          go true p = let m : j ≡ used = omega (arith, leb-true used j p) in rw m fails
          go false p = h.none_yet j (leb-false used j p)

  -- until the budget is used up.
  pub searching_out : 0 < r → budget ≤ used → Told s r budget false 0 used
  searching_out pos u =
      let e = none_found s r budget (λ j k. h.none_yet j (omega arith)) in
      let n : r ≡ 0 → ⊥ = λ z. omega arith in
      let t : used ≡ cond (eqb r 0) 0 budget = rw (ne_eqb r 0 n) (let w = h.within_budget in omega arith) in
      record { found = rw e; value = rw e; taken = rw e t }

-- What a caller learns of what was told.
module _ {s : Words} {r budget : ℕ} {b : Bool} {v n : ℕ} (t : Told s r budget b v n) where
  pub told_first : b ≡ true → (k : ℕ) × FirstGood s r budget k × (v ≡ quotient r (s k)) × (n ≡ k + 1)
  told_first q = go (look s r budget)
    where
      go : Looked s r budget → (k : ℕ) × FirstGood s r budget k × (v ≡ quotient r (s k)) × (n ≡ k + 1)
      go (some_good k f) =
          let e = first_found s r budget f in
          (k, f, t.value ∙ ap (value_of s r) e, t.taken ∙ ap (taken_of r budget) e)
      go (none_good f) = absurd (true≢false (sym q ∙ t.found ∙ ap found_of (none_found s r budget f)))

  pub told_none : b ≡ false → NoneGood s r budget
  told_none q = go (look s r budget)
    where
      go : Looked s r budget → NoneGood s r budget
      go (some_good k f) = absurd (true≢false (sym (t.found ∙ ap found_of (first_found s r budget f)) ∙ q))
      go (none_good f) = f

  -- A draw that was settled is the call's answer, as one that was not is its refusal.
  pub told_answers : b ≡ true → bounded_by s r budget ≡ gives v n
  told_answers q =
      let (k, f, e, m) = told_first q in
      first_is_answer s r budget k f ∙ ap₂ gives (sym e) (sym m)

  pub told_refuses : 0 < r → b ≡ false → bounded_by s r budget ≡ refused out_of_budget
  told_refuses pos q = bounded_only s r budget (out_of_budget_lem pos (told_none q))
