-- `engine_in` meets its contract: the engine of what the state holds.
use Rattle.std.proofs.Common.{ap}
use Rattle.lent_state.specs.State.{Held}
use Rattle.vrd_ffi.proofs.state.engine_in.Goals as goal

pub returns : goal.returns
returns c = ap (λ (h : Held). h.engine) c.held_in-held.ensures
