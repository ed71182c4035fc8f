-- `move_u64` meets its contract: a wide kind, the twister, and otherwise Pcg32.
use Rattle.vrd_ffi.proofs.moves.move_u64.Goals as goal

pub move_wide-requires : goal.move_wide-requires
move_wide-requires c = rw c.if-is_wide.true at c.is_wide.ensures

pub returns-then-is_wide : goal.returns-then-is_wide
returns-then-is_wide c = c.move_wide.ensures _

pub returns-then-state-eq1 : goal.returns-then-state-eq1
returns-then-state-eq1 c = c.twister_two.ensures

pub pcg32_two-requires : goal.pcg32_two-requires
pcg32_two-requires c = (rw c.if-is_wide.false at c.is_wide.ensures) c.requires c.if-state-eq1.false

pub returns : goal.returns
returns c = c.pcg32_two.ensures _
