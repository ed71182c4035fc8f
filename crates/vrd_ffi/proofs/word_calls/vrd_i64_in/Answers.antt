-- `vrd_i64_in` meets its contract: an unknown kind, a wide one, the twister, and otherwise Pcg32, the word read as signed.
use mir.Syntax.{w64}
use Rattle.signed.specs.Callers.{result_read}
use Rattle.lent_state.specs.AnswersLaws.{unknown_kind}
use Rattle.vrd_ffi.specs.WordLaws.{i64_moved}
use Rattle.vrd_ffi.proofs.word_calls.vrd_i64_in.Goals as goal

pub returns-then-state-gt3 : goal.returns-then-state-gt3
returns-then-state-gt3 c = unknown_kind _ _ _ _ c.if-state-gt3.true

pub move_wide-word-requires : goal.move_wide-word-requires
move_wide-word-requires c = rw c.if-is_wide.true at c.is_wide.ensures

pub returns-then-is_wide : goal.returns-then-is_wide
returns-then-is_wide c =
    let d = c.signed_u64-value in
    let known = c.if-state-gt3.false in
    rw (result_read w64 d.result d.type_inv, d.ensures) (i64_moved _ _ known (c.move_wide-word.ensures _))

pub returns-then-state-eq1 : goal.returns-then-state-eq1
returns-then-state-eq1 c =
    let d = c.signed_u64-value-then-state-eq1 in
    rw (result_read w64 d.result d.type_inv, d.ensures) (i64_moved _ _ c.if-state-gt3.false c.twister_two-word.ensures)

pub pcg32_two-word-requires : goal.pcg32_two-word-requires
pcg32_two-word-requires c =
    (rw c.if-is_wide.false at c.is_wide.ensures) c.if-state-gt3.false c.if-state-eq1.false

pub returns : goal.returns
returns c =
    let d = c.signed_u64-value-2 in
    rw (result_read w64 d.result d.type_inv, d.ensures) (i64_moved _ _ c.if-state-gt3.false (c.pcg32_two-word.ensures _))
