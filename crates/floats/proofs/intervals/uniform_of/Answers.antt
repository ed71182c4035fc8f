-- `uniform_of` meets its contract: the number where there is no refusal, and otherwise the refusal's number.
use Rattle.std.proofs.Common.{sym, ◌∙◌, ap, arith}
use Rattle.words.specs.Numbers.{refusal_in}
use Rattle.words.specs.NumbersLaws.{number_positive}
use Rattle.floats.proofs.IntervalLaws.{answered_refused}
use Rattle.floats.proofs.intervals.uniform_of.Goals as goal

pub returns-in-None : goal.returns-in-None
returns-in-None c = rw (c.number_in.ensures, sym c.interval_refusal.ensures ∙ ap refusal_in c.in-None.is)

pub returns-in-Some : goal.returns-in-Some
returns-in-Some c =
    let some = number_positive c.in-Some.refusal in
    rw (sym c.interval_refusal.ensures ∙ ap refusal_in c.in-Some.is, c.number.ensures)
    (sym (answered_refused _ _ (λ z. omega (arith, some, z))))
