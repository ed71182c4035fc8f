-- What the shuffle's promise fixes: one answer and one list, the generator after the words used, and when it is refused, and with which
-- number.
use Rattle.std.specs.Prelude.{◌≡◌, refl, List, Result, Ok, Err, ◌↔◌, ℕ, ◌-◌, ◌≤◌, ◌<◌, length}
use Rattle.std.proofs.Common.{◌∙◌, ap, ap₂, lt_of_not-le, arith}
use Rattle.std.proofs.Math.Decide.{dec_le}
use Rattle.words.specs.Refusal.{answered, too_long, out_of_budget}
use Rattle.words.specs.declared.outcome.Outcome.{Outcome}
use Rattle.words.specs.Draw.{Words, Drawn, all, short, refused, gives, outcome_of}
use Rattle.random.specs.declared.backend.Random.{Random}
use Rattle.random.specs.Generator.{later, words_of}
use Rattle.bounded.specs.declared.answers.Answer.{Answer}
use Rattle.random.specs.declared.engine.Engine.{Engine}
use Rattle.words.specs.declared.refusal.Refusal.{Refusal}
use Rattle.words.specs.declared.reply.Given.{Given}
use Rattle.words.specs.declared.reply.Reply.{Reply}
use Rattle.words.specs.NumbersLaws.{number_positive, one_number}
use Rattle.shuffle.specs.Replies.{done, done_in_numbers}
use Rattle.bounded.specs.OneAnswer.{next_after_used}
use Rattle.lists.specs.Limit.{list_limit}
use Rattle.shuffle.specs.Swap.{arranged}
use Rattle.shuffle.specs.Shuffle.{places_drawn, shuffle_by, list_after, shuffled}
use Rattle.shuffle.specs.Promises.{ShufflePromise}
use Rattle.shuffle.specs.ShuffleLaws.{shuffle_long, shuffle_drawn, list_long, list_drawn, none_drawn}

-- ---- "The new generator is the old one after that many words" (document 01, "Draws")

-- The next generator is the old one after the words that the answer counts.
pub shuffle_next : {a : Answer Random} {l' : List ℕ} (g : Random) (l : List ℕ) (budget : ℕ) → ShufflePromise g l budget a l'
    → a.next ≡ later a.used g
shuffle_next g l budget p = next_after_used g (shuffle_by (words_of g) (length l) budget) p.0

-- ---- its outcomes, said as a relation in the documents' words

-- A list that is too long; draws that the budget does not settle; or places for all of them.
pub data Outcomes (s : Words) (n budget : ℕ) : Outcome → Type 0 where
  too_long_lem : list_limit < n → Outcomes s n budget (refused too_long)
  out_of_budget_lem : (m : ℕ) → n ≤ list_limit → places_drawn s n budget ≡ short m → Outcomes s n budget (refused out_of_budget)
  settled : (places : List ℕ) (used : ℕ) → n ≤ list_limit → places_drawn s n budget ≡ all places used → Outcomes s n budget (gives 0 used)

module _ (s : Words) (n budget : ℕ) where
  -- What the shuffle tells is one of these,
  pub shuffle_is : Outcomes s n budget (shuffle_by s n budget)
  shuffle_is =
      elim (dec_le n list_limit) [ yes h ↦ within h | no h ↦ let l = lt_of_not-le h in rw (shuffle_long s budget n l) (too_long_lem l) ]
    where
      go : n ≤ list_limit → (d : Drawn) → places_drawn s n budget ≡ d → Outcomes s n budget (outcome_of (λ places. 0) d)
      go h (all places used) e = settled places used h e
      go h (short m) e = out_of_budget_lem m h e

      within : n ≤ list_limit → Outcomes s n budget (shuffle_by s n budget)
      within h = rw (shuffle_drawn s budget n h) (go h (places_drawn s n budget) refl)

  -- and no other outcome is.
  pub shuffle_only : {o : Outcome} → Outcomes s n budget o → shuffle_by s n budget ≡ o
  shuffle_only (too_long_lem h) = shuffle_long s budget n h
  shuffle_only (out_of_budget_lem m h e) = shuffle_drawn s budget n h ∙ ap (outcome_of (λ places. 0)) e
  shuffle_only (settled places used h e) = shuffle_drawn s budget n h ∙ ap (outcome_of (λ places. 0)) e

  refusal_of_lem : {o : Outcome} → Outcomes s n budget o → (shuffle_by s n budget).refusal ≡ o.refusal
  refusal_of_lem d = ap (λ (o : Outcome). o.refusal) (shuffle_only d)

  -- TOO LONG: a list above the limit
  pub too_long_exactly_if : ((shuffle_by s n budget).refusal ≡ too_long) ↔ (list_limit < n)
  too_long_exactly_if = (only_if shuffle_is, λ h. refusal_of_lem (too_long_lem h))
    where
      only_if : {o : Outcome} → Outcomes s n budget o → o.refusal ≡ too_long → list_limit < n
      only_if (too_long_lem h) e = h
      only_if (out_of_budget_lem m h d) e = absurd (omega arith)
      only_if (settled places used h d) e = absurd (omega arith)

  -- "the call's draws don't finish within the budget"
  pub out_of_budget_exactly_if : ((shuffle_by s n budget).refusal ≡ out_of_budget)
      ↔ ((n ≤ list_limit) × (m : ℕ) × (places_drawn s n budget ≡ short m))
  out_of_budget_exactly_if = (only_if shuffle_is, λ h. refusal_of_lem (out_of_budget_lem h.1 h.0 h.2))
    where
      only_if : {o : Outcome} → Outcomes s n budget o → o.refusal ≡ out_of_budget
          → (n ≤ list_limit) × (m : ℕ) × (places_drawn s n budget ≡ short m)
      only_if (too_long_lem h) e = absurd (omega arith)
      only_if (out_of_budget_lem m h d) e = (h, m, d)
      only_if (settled places used h d) e = absurd (omega arith)

  -- It is answered exactly if the list is within the limit and all its places are drawn within the budget.
  pub answered_exactly_if : ((shuffle_by s n budget).refusal ≡ answered)
      ↔ ((n ≤ list_limit) × (places : List ℕ) × (used : ℕ) × (places_drawn s n budget ≡ all places used))
  answered_exactly_if = (only_if shuffle_is, λ h. refusal_of_lem (settled h.1 h.2 h.0 h.3))
    where
      only_if : {o : Outcome} → Outcomes s n budget o → o.refusal ≡ answered
          → (n ≤ list_limit) × (places : List ℕ) × (used : ℕ) × (places_drawn s n budget ≡ all places used)
      only_if (too_long_lem h) e = absurd (omega arith)
      only_if (out_of_budget_lem m h d) e = absurd (omega arith)
      only_if (settled places used h d) e = (h, places, used, d)

  -- "Lengths 0 and 1 use no word": they are answered at budget 0
  pub no_word : n < 2 → shuffle_by s n budget ≡ gives 0 0
  no_word h = shuffle_only (settled _ 0 (omega arith) (none_drawn s budget n h))

-- ---- the list: answered, it is the list after the places drawn, and refused it is as it came

module _ (s : Words) (l : List ℕ) (budget : ℕ) where
  -- Answered, the list is arranged by the places drawn;
  pub answered_list : {places : List ℕ} {used : ℕ} → length l ≤ list_limit → places_drawn s (length l) budget ≡ all places used
      → shuffled s l budget ≡ arranged (length l - 1) places l
  answered_list h e = list_drawn s budget l h ∙ ap (list_after l) e

  -- refused, it is as it came.
  pub refused_list : ((shuffle_by s (length l) budget).refusal ≡ answered → ⊥) → shuffled s l budget ≡ l
  refused_list = go (shuffle_is s (length l) budget)
    where
      go : {o : Outcome} → Outcomes s (length l) budget o → (o.refusal ≡ answered → ⊥) → shuffled s l budget ≡ l
      go (too_long_lem h) n = list_long s budget l h
      go (out_of_budget_lem m h e) n = list_drawn s budget l h ∙ ap (list_after l) e
      go (settled places used h e) n = absurd (n refl)

-- ---- the code's answers: two that say the same in document 01's numbers are the same

pub done_apart : (a b : Result (Given (Unit {0})) Refusal) → done a ≡ done b → a ≡ b
done_apart (Ok g) (Ok h) e = ap (λ (o : Outcome). Ok (record { value = tt; used = o.used })) e
done_apart (Err r) (Err q) e = ap Err (one_number (ap (λ (o : Outcome). o.refusal) e))
done_apart (Ok g) (Err q) e = absurd (let some = number_positive q in omega (arith, some, ap (λ (o : Outcome). o.refusal) e))
done_apart (Err r) (Ok h) e = absurd (let some = number_positive r in omega (arith, some, ap (λ (o : Outcome). o.refusal) e))

pub done_same_reply : {G : Type 0} (a b : Reply (Unit {0}) G) → done_in_numbers a ≡ done_in_numbers b → a ≡ b
done_same_reply {G} a b h =
    ap₂ (λ (g : G) (t : Result (Given (Unit {0})) Refusal). record { next = g; told = t }) (ap (λ (x : Answer G). x.next) h)
    (done_apart a.told b.told (ap (λ (x : Answer G). record { refusal = x.refusal; value = x.value; used = x.used }) h))
