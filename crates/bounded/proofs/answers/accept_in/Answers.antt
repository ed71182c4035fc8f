-- `accept_in` meets its contract: the answer of an outcome that gives a value.
use Rattle.bounded.proofs.answers.accept_in.Goals as goal

pub returns : goal.returns
returns c = rw c.gives.ensures at c.answer_in.ensures
