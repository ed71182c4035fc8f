-- `rand_slice_in` meets its contract: a draw's answer, its value read as the start.
use Rattle.lists.specs.SlicingLaws.{start_answers, start_fits}
use Rattle.lists.proofs.windows.rand_slice_in.Goals as goal

pub returns : goal.returns
returns c =
    let drawn = c.number_in-a.ensures in
    record {
      answer = start_answers _ _ _ _ drawn.answer c.as_start.ensures;
      room = start_fits _ _ _ _ c.as_start.ensures drawn.room;
    }
