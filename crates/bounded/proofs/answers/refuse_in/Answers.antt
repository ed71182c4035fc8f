-- `refuse_in` meets its contract: the answer of a refused outcome.
use Rattle.bounded.proofs.answers.refuse_in.Goals as goal

pub returns : goal.returns
returns c = rw c.refused.ensures at c.answer_in.ensures
