-- `twister_two` meets its contract.
use Rattle.vrd_ffi.specs.MovesLaws.{twister_moved64}
use Rattle.vrd_ffi.proofs.moves.twister_two.Goals as goal

pub returns : goal.returns
returns c =
    let drawn = rw c.position.ensures at c.next_u64_in-d.ensures in
    twister_moved64 _ _ _ c.requires _ _ drawn c.put_position.ensures
