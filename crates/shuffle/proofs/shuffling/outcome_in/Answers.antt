-- `outcome_in` meets its contract: the check of the length, and a rehearsal of the draws, which leaves the table.
use Rattle.std.proofs.Common.{refl}
use Rattle.shuffle.specs.ShuffleAnswers.{outcome_long, outcome_all, outcome_short}
use Rattle.shuffle.proofs.shuffling.outcome_in.Goals as goal

pub returns-then-n-gt-LIST_LIMIT : goal.returns-then-n-gt-LIST_LIMIT
returns-then-n-gt-LIST_LIMIT c = record { outcome = outcome_long _ _ _ refl c.if-n-gt-LIST_LIMIT.true; table = refl }

pub returns-in-Some : goal.returns-in-Some
returns-in-Some c =
    let told = rw c.draws_of.ensures at c.rehearse-d.ensures.told in
    record {
      outcome = outcome_all _ _ _ c.if-n-gt-LIST_LIMIT.false told c.in-Some.is refl;
      table = c.rehearse-d.ensures.table;
    }

pub returns-in-None : goal.returns-in-None
returns-in-None c =
    let told = rw c.draws_of.ensures at c.rehearse-d.ensures.told in
    record {
      outcome = outcome_short _ _ _ c.if-n-gt-LIST_LIMIT.false told c.in-None.is refl;
      table = c.rehearse-d.ensures.table;
    }
