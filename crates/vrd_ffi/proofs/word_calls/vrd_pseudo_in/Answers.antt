-- `vrd_pseudo_in` meets its contract: an unknown kind, and the library's word.
use mathlib.Core.Path.{ap}
use Rattle.lent_state.specs.AnswersLaws.{unknown_kind, wrote}
use Rattle.vrd_ffi.specs.Handed.{word_handed}
use Rattle.vrd_ffi.proofs.word_calls.vrd_pseudo_in.Goals as goal

pub returns-then-state-gt3 : goal.returns-then-state-gt3
returns-then-state-gt3 c = unknown_kind _ _ _ _ c.if-state-gt3.true

pub returns : goal.returns
returns c =
    let drawn = rw c.engine_in.ensures at c.pseudo_in-d.ensures in
    wrote _ _ _ _ c.if-state-gt3.false _ _ _ _ c.write.ensures (ap word_handed drawn)
