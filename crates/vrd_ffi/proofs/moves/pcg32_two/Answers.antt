-- `pcg32_two` meets its contract, whatever the table.
use Rattle.vrd_ffi.specs.MovesLaws.{pcg32_moved64}
use Rattle.vrd_ffi.proofs.moves.pcg32_two.Goals as goal

pub returns : goal.returns
returns c =
    let drawn = rw c.pcg32_in.ensures at c.next_u64-d.ensures in
    λ t. pcg32_moved64 _ t _ c.requires _ drawn c.put_small.ensures
