-- `joined` meets its contract.
use Rattle.bounded.proofs.answers.joined.Goals as goal

pub returns : goal.returns
returns c = rw c.with_table-next.ensures
