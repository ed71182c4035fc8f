-- `rand_slice`: when it is refused, and with which number; where an answer's start lies; the same answer at every larger budget. And the
-- part of a list that `window_of` hands back (document 01, "Draws", "When the unit says no"; the order, demand 3).
use Rattle.std.specs.Prelude.{◌≡◌, List, [], ◌↔◌, ◌⊎◌, ℕ, ◌+◌, ◌-◌, ◌≤◌, ◌<◌, length, get_or, drop}
use Rattle.std.proofs.Common.{sym, ◌∙◌, ap, inl, inr, ⊎_elim, lt_of_not-le, arith, length-drop, length-take-le, get_or-take, get_or-drop}
use Rattle.std.proofs.Math.Logic.Iff
use Rattle.std.proofs.Math.Decide.{dec_le}
use Rattle.words.specs.Refusal.{answered, empty, too_long, out_of_budget}
use Rattle.words.specs.Refusal as refusal
use Rattle.words.specs.declared.outcome.Outcome.{Outcome}
use Rattle.words.specs.Draw.{Words}
use Rattle.words.specs.GoodWord.{NoneGood}
use Rattle.words.specs.BelowItsBound.{WordSized}
use Rattle.random.specs.declared.backend.Random.{Random}
use Rattle.random.specs.Generator.{words_of}
use Rattle.lists.specs.Limit.{list_limit}
use Rattle.bounded.specs.Budgeted.{Budgeted, bounded_budgeted}
use Rattle.lists.specs.Checks.{slice_refusal}
use Rattle.lists.specs.CheckLaws.{slice_empty_exactly_if, slice_too_long_exactly_if, slice_window_exactly_if}
use Rattle.lists.specs.CheckLaws.{slice_allowed_exactly_if, slice_not_short}
use Rattle.lists.specs.CheckedDraws.{unless_budgeted, checked_exactly_if, short_exactly_if, answered_passed, answered_below}
use Rattle.lists.specs.CheckedDraws.{answered_uses_a_word}
use Rattle.lists.specs.Slicing.{slice_by, start_of, start_from, part_of}
use Rattle.lists.specs.SlicingLaws.{part_past, part_within}

-- ---- `rand_slice`: a budgeted call, so that "a larger budget never changes an answer given", a refusal is bare, and a budget is kept

pub slice_budgeted : (n window : ℕ) → Budgeted (λ s b. slice_by s n window b)
unfolding slice_by
slice_budgeted n window = unless_budgeted (slice_refusal n window) (bounded_budgeted (n - window + 1))

module _ (s : Words) (n window budget : ℕ) where
  a_start : slice_refusal n window ≡ answered → 0 < n - window + 1
  a_start z = omega arith

  -- what the checks refuse, `rand_slice` does
  by_checks : (m : ℕ) → (m ≡ answered → ⊥) → (m ≡ out_of_budget → ⊥)
      → ((slice_by s n window budget).refusal ≡ m) ↔ (slice_refusal n window ≡ m)
  unfolding slice_by
  by_checks = checked_exactly_if (slice_refusal n window) s (n - window + 1) budget a_start

  -- "EMPTY",
  pub start_empty_exactly_if : ((slice_by s n window budget).refusal ≡ empty) ↔ (n ≡ 0)
  start_empty_exactly_if = Iff.trans (by_checks empty (λ e. omega arith) (λ e. omega arith)) (slice_empty_exactly_if n window)

  -- "TOO LONG",
  pub start_too_long_exactly_if : ((slice_by s n window budget).refusal ≡ too_long) ↔ (list_limit < n)
  start_too_long_exactly_if = Iff.trans (by_checks too_long (λ e. omega arith) (λ e. omega arith)) (slice_too_long_exactly_if n window)

  -- "WINDOW", of a list that is neither,
  pub start_window_exactly_if : ((slice_by s n window budget).refusal ≡ refusal.window)
      ↔ ((0 < n) × (n ≤ list_limit) × ((window ≡ 0) ⊎ (n < window)))
  start_window_exactly_if = Iff.trans (by_checks refusal.window (λ e. omega arith) (λ e. omega arith)) (slice_window_exactly_if n window)

  -- "BUDGET", the last: among the words of the budget none is good for the number of starts.
  pub start_out_of_budget_exactly_if : ((slice_by s n window budget).refusal ≡ out_of_budget)
      ↔ (((n ≤ list_limit) × (0 < window) × (window ≤ n)) × NoneGood s (n - window + 1) budget)
  unfolding slice_by
  start_out_of_budget_exactly_if =
      Iff.trans (short_exactly_if (slice_refusal n window) s (n - window + 1) budget a_start (slice_not_short n window))
      (λ h. ((slice_allowed_exactly_if n window).0 h.0, h.1), λ h. ((slice_allowed_exactly_if n window).1 h.0, h.1))

  -- An answer: its start leaves room for the window,
  module _ (a : (slice_by s n window budget).refusal ≡ answered) where
    pub start_leaves_room : WordSized s → (slice_by s n window budget).value + window ≤ n
    unfolding slice_by
    start_leaves_room sized =
        let fits = (slice_allowed_exactly_if n window).0 (answered_passed (slice_refusal n window) s (n - window + 1) budget a_start a) in
        omega (arith, fits.2, answered_below (slice_refusal n window) s (n - window + 1) budget a_start sized a)

    -- and a word at least was used for it: "a window as long as its list [too] still use[s] a word".
    pub start_uses_a_word : 0 < (slice_by s n window budget).used
    unfolding slice_by
    start_uses_a_word = answered_uses_a_word (slice_refusal n window) s (n - window + 1) budget a_start a

-- "a larger budget never changes an answer given": value, words used and next generator
pub start_larger : (g : Random) (n window b b' : ℕ) → b ≤ b' → (slice_by (words_of g) n window b).refusal ≡ answered
    → start_from g (start_of (slice_by (words_of g) n window b')) ≡ start_from g (start_of (slice_by (words_of g) n window b))
start_larger g n window b b' h a = ap (λ (o : Outcome). start_from g (start_of o)) ((slice_budgeted n window).larger (words_of g) b b' h a)

-- ---- the part

module _ (list : List ℕ) (start window : ℕ) where
  -- Within the list the part has its length and the list's entries from its start on;
  module _ (h : start + window ≤ length list) where
    pub part_length : length (part_of list start window) ≡ window
    part_length =
        let rest : window ≤ length (drop start list) = rw (length-drop start list) (omega arith) in
        rw (part_within list start window h) (length-take-le window (drop start list) rest)

    pub part_entry : (j : ℕ) → j < window → get_or (part_of list start window) j 0 ≡ get_or list (start + j) 0
    part_entry j u = rw (part_within list start window h) (get_or-take window (drop start list) j 0 u ∙ get_or-drop start list j 0)

  -- it is empty exactly if it has no entry, or "start + window, summed without wrapping, exceeds the list's length".
  pub part_empty_exactly_if : (part_of list start window ≡ []) ↔ ((window ≡ 0) ⊎ (length list < start + window))
  part_empty_exactly_if = go (dec_le (start + window) (length list))
    where
      no_entry : start + window ≤ length list → part_of list start window ≡ [] → window ≡ 0
      no_entry h e = sym (part_length h) ∙ ap length e

      go : Dec (start + window ≤ length list) → (part_of list start window ≡ []) ↔ ((window ≡ 0) ⊎ (length list < start + window))
      go (yes h) = (λ e. inl (no_entry h e), ⊎_elim (λ z. rw (part_within list start window h, z)) (λ u. absurd (omega arith)))
      go (no h) = (λ e. inr (lt_of_not-le h), λ w. part_past list start window (lt_of_not-le h))
