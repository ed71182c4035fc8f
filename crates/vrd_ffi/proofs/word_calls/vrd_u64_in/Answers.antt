-- `vrd_u64_in` meets its contract: an unknown kind, a wide one, the twister, and otherwise Pcg32.
use Rattle.lent_state.specs.AnswersLaws.{unknown_kind}
use Rattle.vrd_ffi.specs.WordLaws.{u64_moved}
use Rattle.vrd_ffi.proofs.word_calls.vrd_u64_in.Goals as goal

pub returns-then-state-gt3 : goal.returns-then-state-gt3
returns-then-state-gt3 c = unknown_kind _ _ _ _ c.if-state-gt3.true

pub move_wide-value-requires : goal.move_wide-value-requires
move_wide-value-requires c = rw c.if-is_wide.true at c.is_wide.ensures

pub returns-then-is_wide : goal.returns-then-is_wide
returns-then-is_wide c = u64_moved _ _ c.if-state-gt3.false (c.move_wide-value.ensures _)

pub returns-then-state-eq1 : goal.returns-then-state-eq1
returns-then-state-eq1 c = u64_moved _ _ c.if-state-gt3.false c.twister_two-value.ensures

pub pcg32_two-value-requires : goal.pcg32_two-value-requires
pcg32_two-value-requires c =
    (rw c.if-is_wide.false at c.is_wide.ensures) c.if-state-gt3.false c.if-state-eq1.false

pub returns : goal.returns
returns c = u64_moved _ _ c.if-state-gt3.false (c.pcg32_two-value.ensures _)
