-- `vrd_set_mti_in` meets its contract, whatever the table: an unknown kind, and the library's engine.
use mathlib.Core.Path.{ap}
use Rattle.random.specs.Lent.{joined_with}
use Rattle.random.specs.declared.engine.Engine.{Engine}
use Rattle.lent_state.specs.Answers.{gives}
use Rattle.lent_state.specs.AnswersLaws.{unknown_kind, wrote}
use Rattle.vrd_ffi.proofs.state_calls.vrd_set_mti_in.Goals as goal

pub returns-then-state-gt3 : goal.returns-then-state-gt3
returns-then-state-gt3 c = λ t. unknown_kind _ t _ _ c.if-state-gt3.true

pub returns : goal.returns
returns c =
    let next = rw c.engine_in.ensures at c.set_mti_in-e.ensures in
    λ t. wrote _ t _ _ c.if-state-gt3.false _ _ t _ c.write.ensures (ap (λ (e : Engine). gives 0 (joined_with e t)) next)
