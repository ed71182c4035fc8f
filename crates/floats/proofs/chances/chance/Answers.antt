-- `chance` meets its contract: the code's test is the definition's, and so is the comparison with p.
use Rattle.std.proofs.Common.{sym, ◌∙◌}
use Rattle.floats.proofs.chances.chance.Goals as goal

pub returns-then-is_chance : goal.returns-then-is_chance
returns-then-is_chance c = rw (c.double_of.ensures, sym c.is_chance.ensures ∙ c.if-is_chance.true)

pub returns-else-is_chance : goal.returns-else-is_chance
returns-else-is_chance c = rw (sym c.is_chance.ensures ∙ c.if-is_chance.false)
