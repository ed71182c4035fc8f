-- `span_of` meets its contract: the difference in 64 bits, or 0 where it is below zero, is the gap.
use mathlib.Core.Path.{◌∙◌, ap}
use lib.IntN.{nat_abs}
use mir.Syntax.{w64}
use Rattle.signed.proofs.Spanning.{span_gap}
use Rattle.signed.specs.Callers.{result_read}
use Rattle.signed.proofs.span_of.Goals as goal

pub returns : goal.returns
returns c = ap nat_abs (result_read w64 _ c.max.type_inv ∙ c.max.ensures.value) ∙ span_gap c.ranges.min c.ranges.max
