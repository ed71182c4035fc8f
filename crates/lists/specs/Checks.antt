-- What the list calls refuse before a word is drawn (document 01, "When the unit says no"): the refusal's number, or 0.
use Rattle.std.specs.Prelude.{cond, ℕ, ltb, eqb}
use Rattle.words.specs.Refusal.{answered, empty, too_long}
use Rattle.words.specs.Refusal as refusal
use Rattle.words.specs.declared.outcome.Outcome.{Outcome}
use Rattle.words.specs.Draw.{refused}
use Rattle.lists.specs.Limit.{list_limit}

-- "an empty list"; a list above the limit
unfoldable pub list_refusal : ℕ → ℕ
list_refusal n = cond (eqb n 0) empty (cond (ltb list_limit n) too_long answered)

-- "window 0, or longer than the list"
unfoldable pub window_refusal : ℕ → ℕ → ℕ
window_refusal n window = cond (eqb window 0) refusal.window (cond (ltb n window) refusal.window answered)

-- of two checks, the first that refuses
unfoldable pub first_of : ℕ → ℕ → ℕ
first_of a b = cond (eqb a answered) b a

-- "Order: .. 4, 5, 6"
abbrev pub slice_refusal : ℕ → ℕ → ℕ
slice_refusal n window = first_of (list_refusal n) (window_refusal n window)

-- a call that is refused with this number, or goes on where it is 0: "8 last"
unfoldable pub unless : ℕ → Outcome → Outcome
unless number o = cond (eqb number answered) o (refused number)
