-- `choose`: when it is refused, and with which number; the place and the entry of an answer; the same answer at every larger budget
-- (document 01, "Draws", "When the unit says no"; the order, demand 3).
use Rattle.std.specs.Prelude.{◌≡◌, List, ◌↔◌, ℕ, ◌≤◌, ◌<◌, length}
use Rattle.std.proofs.Math.Path.{ap}
use Rattle.std.proofs.Math.Logic.Iff
use Rattle.std.proofs.Common.{arith}
use Rattle.std.proofs.Math.ListN.{get_or}
use Rattle.words.specs.Refusal.{answered, empty, too_long, out_of_budget}
use Rattle.words.specs.Draw.{Words}
use Rattle.words.specs.OutcomeLaws.{worked_answered, worked_refused}
use Rattle.words.specs.GoodWord.{NoneGood}
use Rattle.words.specs.BelowItsBound.{WordSized}
use Rattle.random.specs.declared.backend.Random.{Random}
use Rattle.random.specs.Generator.{words_of}
use Rattle.lists.specs.Limit.{list_limit}
use Rattle.bounded.specs.Budgeted.{Budgeted, bounded_budgeted}
use Rattle.lists.specs.Checks.{list_refusal}
use Rattle.lists.specs.CheckLaws.{list_empty_exactly_if, list_too_long_exactly_if, list_allowed_exactly_if, list_not_short}
use Rattle.lists.specs.CheckedDraws.{unless_budgeted, checked_exactly_if, short_exactly_if, answered_below, answered_uses_a_word}
use Rattle.lists.specs.Choosing.{place_by, entry_of, choose_by, choice_from}

-- the place is a budgeted call's value
pub place_budgeted : (n : ℕ) → Budgeted (λ s b. place_by s n b)
unfolding place_by
place_budgeted n = unless_budgeted (list_refusal n) (bounded_budgeted n)

module _ (s : Words) (list : List ℕ) where
  some_entry : list_refusal (length list) ≡ answered → 0 < length list
  some_entry z = (list_allowed_exactly_if.0 z).0

  module _ (budget : ℕ) where
    -- what the check refuses, `choose` does
    by_check : (m : ℕ) → (m ≡ answered → ⊥) → (m ≡ out_of_budget → ⊥)
        → ((choose_by s list budget).refusal ≡ m) ↔ (list_refusal (length list) ≡ m)
    unfolding choose_by entry_of place_by
    by_check = checked_exactly_if (list_refusal (length list)) s (length list) budget some_entry

    -- "EMPTY",
    pub choose_empty_exactly_if : ((choose_by s list budget).refusal ≡ empty) ↔ (length list ≡ 0)
    choose_empty_exactly_if = Iff.trans (by_check empty (λ e. omega arith) (λ e. omega arith)) list_empty_exactly_if

    -- "TOO LONG",
    pub choose_too_long_exactly_if : ((choose_by s list budget).refusal ≡ too_long) ↔ (list_limit < length list)
    choose_too_long_exactly_if = Iff.trans (by_check too_long (λ e. omega arith) (λ e. omega arith)) list_too_long_exactly_if

    -- "BUDGET", the last: among the words of the budget none is good for the length.
    pub choose_out_of_budget_exactly_if : ((choose_by s list budget).refusal ≡ out_of_budget)
        ↔ (((0 < length list) × (length list ≤ list_limit)) × NoneGood s (length list) budget)
    unfolding choose_by entry_of place_by
    choose_out_of_budget_exactly_if =
        Iff.trans (short_exactly_if (list_refusal (length list)) s (length list) budget some_entry (list_not_short (length list)))
        (λ h. (list_allowed_exactly_if.0 h.0, h.1), λ h. (list_allowed_exactly_if.1 h.0, h.1))

    -- "Every refusal gives its number, value 0 and 0 words used .. Any other part of the answer (place, ..) is 0"
    module _ (n : (choose_by s list budget).refusal ≡ answered → ⊥) where
      pub choose_unused : (choose_by s list budget).used ≡ 0
      unfolding choose_by entry_of
      choose_unused = (place_budgeted (length list)).unused s budget n

      pub choose_placeless : (choose_by s list budget).place ≡ 0
      unfolding choose_by entry_of
      choose_placeless = (place_budgeted (length list)).valueless s budget n

      pub choose_valueless : (choose_by s list budget).value ≡ 0
      unfolding choose_by entry_of
      choose_valueless = worked_refused (λ v. get_or list v 0) 0 (place_by s (length list) budget) n

    -- An answer: "place drawn below the length, value the entry there",
    module _ (a : (choose_by s list budget).refusal ≡ answered) where
      pub choose_place_below : WordSized s → (choose_by s list budget).place < length list
      unfolding choose_by entry_of place_by
      choose_place_below sized = answered_below (list_refusal (length list)) s (length list) budget some_entry sized a

      pub choose_value_there : (choose_by s list budget).value ≡ get_or list (choose_by s list budget).place 0
      unfolding choose_by entry_of
      choose_value_there = worked_answered (λ v. get_or list v 0) 0 (place_by s (length list) budget) a

      -- and a word at least was used for it: "`choose` from one entry .. still use[s] a word".
      pub choose_uses_a_word : 0 < (choose_by s list budget).used
      unfolding choose_by entry_of place_by
      choose_uses_a_word = answered_uses_a_word (list_refusal (length list)) s (length list) budget some_entry a

    -- "A budget .. is for the whole call."
    pub choose_used_within : (choose_by s list budget).used ≤ budget
    unfolding choose_by entry_of
    choose_used_within = (place_budgeted (length list)).within s budget

  -- "a larger budget never changes an answer given"
  pub choose_larger : (b b' : ℕ) → b ≤ b' → (choose_by s list b).refusal ≡ answered → choose_by s list b' ≡ choose_by s list b
  unfolding choose_by entry_of
  choose_larger b b' h a = ap (entry_of list) ((place_budgeted (length list)).larger s b b' h a)

-- and so the whole answer stays: value, words used and next generator, by value and over a lent table.
module _ (list : List ℕ) (b b' : ℕ) (h : b ≤ b') where
  pub choice_larger : (g : Random) → (choose_by (words_of g) list b).refusal ≡ answered
      → choice_from g (choose_by (words_of g) list b') ≡ choice_from g (choose_by (words_of g) list b)
  choice_larger g a = ap (choice_from g) (choose_larger (words_of g) list b b' h a)
