-- Two answers that say the same in document 01's numbers are the same.
use Rattle.std.specs.Prelude.{◌≡◌, refl, false, ℕ, ◌<◌, Option, Some, None, Result, Ok, Err, cond, eqb}
use Rattle.std.proofs.Common.{sym, ◌∙◌, ap, arith, ne_eqb}
use Rattle.words.specs.declared.outcome.Outcome.{Outcome}
use Rattle.words.specs.declared.refusal.Refusal.{Refusal}
use Rattle.words.specs.declared.refusal.Refusal.TheVariants as no
use Rattle.words.specs.declared.reply.Given.{Given}
use Rattle.words.specs.Refusal as number
use Rattle.words.specs.Numbers.{number_of, refusal_in, numbered}

-- the refusal of a number (of one that is none, the last)
abbrev pub refusal_of : ℕ → Refusal
refusal_of n =
    cond (eqb n number.zero_range) no.ZeroRange
    (cond (eqb n number.order) no.Order
    (cond (eqb n number.chance) no.Chance
    (cond (eqb n number.empty) no.Empty
    (cond (eqb n number.too_long) no.TooLong
    (cond (eqb n number.window) no.Window
    (cond (eqb n number.not_finite) no.NotFinite
    (cond (eqb n number.out_of_budget) no.Budget
    (cond (eqb n number.no_split) no.NoSplit
    (cond (eqb n number.kind) no.Kind no.SeedLength)))))))))

refusal_again : (r : Refusal) → refusal_of (number_of r) ≡ r
refusal_again no.ZeroRange = refl
refusal_again no.Order = refl
refusal_again no.Chance = refl
refusal_again no.Empty = refl
refusal_again no.TooLong = refl
refusal_again no.Window = refl
refusal_again no.NotFinite = refl
refusal_again no.Budget = refl
refusal_again no.NoSplit = refl
refusal_again no.Kind = refl
refusal_again no.SeedLength = refl

-- Each refusal has a number of its own,
pub one_number : {r q : Refusal} → number_of r ≡ number_of q → r ≡ q
one_number {r} {q} h = sym (refusal_again r) ∙ ap refusal_of h ∙ refusal_again q

-- and none has the number of an answered call.
pub number_positive : (r : Refusal) → number.answered < number_of r
number_positive no.ZeroRange = omega arith
number_positive no.Order = omega arith
number_positive no.Chance = omega arith
number_positive no.Empty = omega arith
number_positive no.TooLong = omega arith
number_positive no.Window = omega arith
number_positive no.NotFinite = omega arith
number_positive no.Budget = omega arith
number_positive no.NoSplit = omega arith
number_positive no.Kind = omega arith
number_positive no.SeedLength = omega arith

-- as a test has it
pub not_answered : (r : Refusal) → eqb (number_of r) number.answered ≡ false
not_answered r = ne_eqb (number_of r) number.answered (λ z. let some = number_positive r in omega arith)

-- What two checks come to is the same where its numbers are.
pub checks_apart : (a b : Option Refusal) → refusal_in a ≡ refusal_in b → a ≡ b
checks_apart None None e = refl
checks_apart (Some r) (Some q) e = ap Some (one_number e)
checks_apart None (Some q) e = absurd (omega (arith, number_positive q, e))
checks_apart (Some r) None e = absurd (omega (arith, number_positive r, e))

-- What two calls tell is the same where its numbers are.
pub numbers_apart : (a b : Result (Given ℕ) Refusal) → numbered a ≡ numbered b → a ≡ b
numbers_apart (Ok g) (Ok h) e =
    ap (λ (o : Outcome). Ok (record { value = o.value; used = o.used })) e
numbers_apart (Err r) (Err q) e = ap Err (one_number (ap (λ (o : Outcome). o.refusal) e))
numbers_apart (Ok g) (Err q) e = absurd (omega (arith, number_positive q, ap (λ (o : Outcome). o.refusal) e))
numbers_apart (Err r) (Ok h) e = absurd (omega (arith, number_positive r, ap (λ (o : Outcome). o.refusal) e))
