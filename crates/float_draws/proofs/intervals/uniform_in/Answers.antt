-- `uniform_in` meets its contract: the interval is asked first; taken, the number of the drawn word, and refused, nothing drawn.
use Rattle.std.proofs.Common.{◌∙◌, sym, ap, arith}
use Rattle.words.specs.Numbers.{refusal_in}
use Rattle.words.specs.NumbersLaws.{number_positive}
use Rattle.float_draws.proofs.Laws.{spread_taken, spread_refused}
use Rattle.float_draws.proofs.intervals.uniform_in.Goals as goal

pub returns-in-None : goal.returns-in-None
returns-in-None c =
    let none = sym c.interval_refusal.ensures ∙ ap refusal_in c.in-None.is in
    rw c.uniform_of.ensures (spread_taken _ _ none c.next_u64-d.result _ c.next_u64-d.ensures)

pub returns-in-Some : goal.returns-in-Some
returns-in-Some c =
    let told = sym (ap refusal_in c.in-Some.is) ∙ c.interval_refusal.ensures in
    let some = number_positive c.in-Some.refusal in
    rw (c.number.ensures, told) (spread_refused _ _ (λ z. omega (arith, some, told, z)))
