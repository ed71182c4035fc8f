-- `choose_in` meets its contract: the place drawn, and the entry there.
use Rattle.lists.specs.Choosing.{choose_by}
use Rattle.lists.specs.ChoosingLaws.{entry_answers, entry_within}
use Rattle.lists.proofs.places.choose_in.Goals as goal

pub returns : goal.returns
unfolding choose_by
returns c =
    let drawn = c.place_in-a.ensures in
    record {
      answer = entry_answers _ _ _ _ _ drawn.answer c.entry_in.ensures;
      within = entry_within _ _ _ _ c.entry_in.ensures drawn.within;
    }
