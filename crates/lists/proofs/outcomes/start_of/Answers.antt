-- `start_of` meets its contract: the value drawn, read as a start.
use mathlib.Core.Path.{refl}
use Rattle.lists.specs.Slicing.{start_of}
use Rattle.lists.proofs.outcomes.start_of.Goals as goal

pub returns : goal.returns
unfolding start_of
returns c = refl
