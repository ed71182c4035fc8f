-- `steps_in` meets its contract, kind by kind.
use Rattle.vrd_ffi.specs.MovesLaws.{one_word}
use Rattle.lent_state.specs.State.{backend_in}
use Rattle.vrd_ffi.proofs.float_calls.steps_in.Goals as goal

pub returns-then-kind-eq1 : goal.returns-then-kind-eq1
unfolding backend_in
returns-then-kind-eq1 c = rw c.if-kind-eq1.true

pub returns-then-kind-eq2 : goal.returns-then-kind-eq2
unfolding backend_in
returns-then-kind-eq2 c = rw c.if-kind-eq2.true

pub returns : goal.returns
returns c = one_word _ c.if-kind-eq1.false c.if-kind-eq2.false
