-- `vrd_twist_in` meets its contract: an unknown kind, and the library's generator.
use mathlib.Core.Path.{ap}
use Rattle.random.specs.declared.backend.Random.{Random}
use Rattle.lent_state.specs.Answers.{gives}
use Rattle.lent_state.specs.AnswersLaws.{unknown_kind, wrote}
use Rattle.vrd_ffi.proofs.state_calls.vrd_twist_in.Goals as goal

pub returns-then-state-gt3 : goal.returns-then-state-gt3
returns-then-state-gt3 c = unknown_kind _ _ _ _ c.if-state-gt3.true

pub returns : goal.returns
returns c =
    let next = rw c.engine_in.ensures at c.twist_in-e.ensures in
    wrote _ _ _ _ c.if-state-gt3.false _ _ _ _ c.write.ensures (ap (λ (g : Random). gives 0 g) next)
