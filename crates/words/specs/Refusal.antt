-- The refusals of document 01, "When the unit says no", by name. The code has the same numbers in src/refusal.rt: there a constant is
-- its number, so a contract that cites a name below is met by the constant of that name.
use Rattle.std.specs.Prelude.{ℕ}

-- the call is answered
abbrev pub answered : ℕ
answered = 0

-- ZERO RANGE: `bounded` by 0
abbrev pub zero_range : ℕ
zero_range = 1

-- ORDER: the ends of a range the wrong way round
abbrev pub order : ℕ
order = 2

-- CHANCE: p is NaN, below 0 or above 1
abbrev pub chance : ℕ
chance = 3

-- EMPTY: `choose` or `rand_slice` on an empty list
abbrev pub empty : ℕ
empty = 4

-- TOO LONG: a list above the limit
abbrev pub too_long : ℕ
too_long = 5

-- WINDOW: window 0, or longer than the list
abbrev pub window : ℕ
window = 6

-- NOT FINITE: an end of `uniform` is NaN or infinite, or high - low overflows
abbrev pub not_finite : ℕ
not_finite = 7

-- BUDGET: the call's draws don't finish within the budget
abbrev pub out_of_budget : ℕ
out_of_budget = 8

-- NO SPLIT: `split` on kinds 1, 2, 3
abbrev pub no_split : ℕ
no_split = 9

-- KIND: a kind above 3
abbrev pub kind : ℕ
kind = 10

-- SEED LENGTH: a byte seed not of the kind's length
abbrev pub seed_length : ℕ
seed_length = 11
