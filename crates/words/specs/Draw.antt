-- Drawing below a bound, and below each bound of a list, from any sequence of words under a budget (the order, demand 3; document 01,
-- "Draws"). Nothing here knows what gives the words. The laws stand in the files beside this one.
use Rattle.std.specs.Prelude.{Bool, true, false, cond, List, [], ◌∷◌, ℕ, zero, suc, ◌+◌, ◌-◌, ◌*◌, ◌/◌, ◌%◌, ◌^◌, leb, eqb, get_or}
use Rattle.words.specs.declared.outcome.Outcome.{Outcome}
use Rattle.words.specs.Refusal.{answered, zero_range, out_of_budget}

-- A sequence of words: the next one is at place 0.
abbrev pub Words : Type 0
Words = ℕ → ℕ

-- The sequence just past its first n words.
abbrev pub after : ℕ → Words → Words
after n s k = s (n + k)

-- The words of a given list, and zeros past its end.
abbrev pub listed : List ℕ → Words
listed l k = get_or l k 0

-- "some word's product with r leaves at least 2^32 mod r when divided by 2^32": such a word is good for r.
abbrev pub good : ℕ → ℕ → Bool
good r w = leb (2 ^ 32 % r) ((w * r) % 2 ^ 32)

-- "the quotient": what a good word draws.
abbrev pub quotient : ℕ → ℕ → ℕ
quotient r w = (w * r) / 2 ^ 32

-- A place, or that there is none.
pub data Found : Type 0 where
  at : ℕ → Found
  nowhere : Found

-- The first of the n places from i on that passes a test.
unfoldable pub first : (ℕ → Bool) → ℕ → ℕ → Found
first test zero i = nowhere
first test (suc n) i = elim (test i) [ true ↦ at i | false ↦ first test n (i + 1) ]

-- The place of the first good word for r "among the next B words".
unfoldable pub first_good : Words → ℕ → ℕ → Found
first_good s r budget = first (λ k. good r (s k)) budget 0

-- What a call tells is an `Outcome`, the code's own: its refusal's number (0 where it is answered), its value, and the words used. The next
-- generator is always the old one after `used` words, so an outcome names no generator.

-- "Every refusal gives its number, value 0 and 0 words used" (document 01).
abbrev pub refused : ℕ → Outcome
refused number = record { refusal = number; value = 0; used = 0 }

-- An answered call: its value and the words used.
abbrev pub gives : ℕ → ℕ → Outcome
gives v n = record { refusal = answered; value = v; used = n }

-- "The answer is the quotient for the first such word, and the generator stands just past it"; without one the call is refused with 8.
abbrev pub settled_by : Words → ℕ → Found → Outcome
settled_by s r (at k) = gives (quotient r (s k)) (k + 1)
settled_by s r nowhere = refused out_of_budget

-- ONE DRAW below r: refused with 1 where r is 0.
unfoldable pub bounded_by : Words → ℕ → ℕ → Outcome
bounded_by s r budget = cond (eqb r 0) (refused zero_range) (settled_by s r (first_good s r budget))

-- What draws one after the other come to: all their values and the words used; or, where the budget ends first, how many were settled.
pub data Drawn : Type 0 where
  all : List ℕ → ℕ → Drawn
  short : ℕ → Drawn

-- One draw more in front, of value v, that used n words.
abbrev pub more : ℕ → ℕ → Drawn → Drawn
more v n (all vs m) = all (v ∷ vs) (n + m)
more v n (short m) = short (m + 1)

-- DRAWS below each bound of a list, "draw after draw under one budget": each starts just past the word that settled the one before it,
-- with the budget that is left.
unfoldable pub draws : Words → List ℕ → ℕ → Drawn
draws s [] budget = all [] 0
draws s (r ∷ rs) budget =
    elim (first_good s r budget) [
      | at k ↦ more (quotient r (s k)) (k + 1) (draws (after (k + 1) s) rs (budget - (k + 1)))
      | nowhere ↦ short 0
    ]

-- The outcome of a call that makes these draws and works its value out of theirs.
abbrev pub outcome_of : (List ℕ → ℕ) → Drawn → Outcome
outcome_of value (all vs n) = gives (value vs) n
outcome_of value (short m) = refused out_of_budget
