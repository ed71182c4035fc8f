-- `is_chance` meets its contract: the two comparisons say what the whole numbers do.
use lib.Ieee.{of_bits}
use Rattle.floats.proofs.ChanceLaws.{is_chance_tests}
use Rattle.floats.proofs.chances.is_chance.Goals as goal

pub returns-then-p : goal.returns-then-p
unfolding of_bits
returns-then-p c = rw (is_chance_tests c.args.p, c.if-p.true)

pub returns-else-p : goal.returns-else-p
unfolding of_bits
returns-else-p c = rw (is_chance_tests c.args.p, c.if-p.false)
