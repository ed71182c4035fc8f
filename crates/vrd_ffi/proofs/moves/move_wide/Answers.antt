-- `move_wide` meets its contract: kind 0, and otherwise kind 3.
use Rattle.vrd_ffi.specs.MovesLaws.{xoshiro_moved64, pcg64_moved64}
use Rattle.vrd_ffi.proofs.moves.move_wide.Goals as goal

pub returns-then-kind-eq0 : goal.returns-then-kind-eq0
returns-then-kind-eq0 c =
    let drawn = rw c.xoshiro_in.ensures at c.next_u64-d.ensures in
    λ t. xoshiro_moved64 _ t _ c.if-kind-eq0.true _ drawn c.put_small.ensures

pub returns : goal.returns
returns c =
    let drawn = rw c.pcg64_in.ensures at c.next_u64-d-2.ensures in
    λ t. pcg64_moved64 _ t _ (c.requires c.if-kind-eq0.false) _ drawn c.put_small-2.ensures
