-- `move_narrow` meets its contract: the twister, and otherwise Pcg32.
use Rattle.vrd_ffi.specs.MovesLaws.{twister_moved, pcg32_moved}
use Rattle.vrd_ffi.proofs.moves.move_narrow.Goals as goal

pub returns-then-kind-eq1 : goal.returns-then-kind-eq1
returns-then-kind-eq1 c =
    let drawn = rw c.position.ensures at c.rand_in-d.ensures in
    twister_moved _ _ _ c.if-kind-eq1.true _ _ drawn c.put_position.ensures

pub returns : goal.returns
returns c =
    let drawn = rw c.pcg32_in.ensures at c.next_u32-d.ensures in
    pcg32_moved _ _ _ (c.requires c.if-kind-eq1.false) _ drawn c.put_small.ensures
