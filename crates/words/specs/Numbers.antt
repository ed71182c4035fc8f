-- What an answer of the code says in document 01's numbers: "That definition gives this paper's number and values for each of the enum's
-- cases" (document 01, "Language forms in the code").
use Rattle.std.specs.Prelude.{ℕ, Option, Some, None, Result, Ok, Err}
use Rattle.words.specs.declared.outcome.Outcome.{Outcome}
use Rattle.words.specs.declared.refusal.Refusal.{Refusal}
use Rattle.words.specs.declared.refusal.Refusal.TheVariants as no
use Rattle.words.specs.declared.reply.Given.{Given}
use Rattle.words.specs.Draw.{refused, gives}
use Rattle.words.specs.Refusal as number

-- A refusal's number.
abbrev pub number_of : Refusal → ℕ
number_of no.ZeroRange = number.zero_range
number_of no.Order = number.order
number_of no.Chance = number.chance
number_of no.Empty = number.empty
number_of no.TooLong = number.too_long
number_of no.Window = number.window
number_of no.NotFinite = number.not_finite
number_of no.Budget = number.out_of_budget
number_of no.NoSplit = number.no_split
number_of no.Kind = number.kind
number_of no.SeedLength = number.seed_length

-- What a check comes to: 0 where nothing is refused.
abbrev pub refusal_in : Option Refusal → ℕ
refusal_in (Some r) = number_of r
refusal_in None = number.answered

-- The outcome of a call that tells this: its value and words used, or its refusal's number with value 0 and 0 words.
abbrev pub numbered : Result (Given ℕ) Refusal → Outcome
numbered (Ok g) = gives g.value g.used
numbered (Err r) = refused (number_of r)
