-- `vrd_float_in` meets its contract: an unknown kind, and the float of the next word of a wide kind and of a narrow one.
use Rattle.lent_state.specs.AnswersLaws.{unknown_kind}
use Rattle.vrd_ffi.specs.MovesLaws.{half_moved}
use Rattle.vrd_ffi.specs.WordLaws.{float_moved}
use Rattle.vrd_ffi.proofs.float_calls.vrd_float_in.Goals as goal

pub returns-then-state-gt3 : goal.returns-then-state-gt3
returns-then-state-gt3 c = unknown_kind _ _ _ _ c.if-state-gt3.true

pub move_wide-word-requires : goal.move_wide-word-requires
move_wide-word-requires c = rw c.if-is_wide.true at c.is_wide.ensures

pub returns-then-is_wide : goal.returns-then-is_wide
returns-then-is_wide c =
    let wide = rw c.if-is_wide.true at c.is_wide.ensures in
    rw c.float_of-value.ensures (float_moved _ _ c.if-state-gt3.false (half_moved _ _ _ _ _ wide (c.move_wide-word.ensures _)))

pub move_narrow-word-requires : goal.move_narrow-word-requires
move_narrow-word-requires c = (rw c.if-is_wide.false at c.is_wide.ensures) c.if-state-gt3.false

pub returns : goal.returns
returns c =
    let known = c.if-state-gt3.false in
    rw c.float_of-value-2.ensures (float_moved _ _ known c.move_narrow-word.ensures)
