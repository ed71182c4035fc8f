-- `below_within` meets its contract: no word allowed, and some.
use borrow.Author.Tests.{eq-eqb, ne_eqb}
use Rattle.vrd_ffi.specs.Moves.{below_within}
use Rattle.vrd_ffi.proofs.first_word.below_within.Goals as goal

pub returns-then-budget-eq0 : goal.returns-then-budget-eq0
unfolding below_within
returns-then-budget-eq0 c = rw (eq-eqb _ 0 c.if-budget-eq0.true)

pub returns : goal.returns
unfolding below_within
returns c = rw (ne_eqb _ 0 c.if-budget-eq0.false)
