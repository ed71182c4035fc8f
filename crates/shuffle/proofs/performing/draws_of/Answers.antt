-- `draws_of` meets its contract, by the cases of the list's length.
use mathlib.Core.Path.{sym}
use native.Mathlib.Omega.{arith}
use Rattle.shuffle.specs.PerformingLaws.{draws_long, draws_made}
use Rattle.shuffle.proofs.performing.draws_of.Goals as goal

pub returns-then-n-gt-LIST_LIMIT : goal.returns-then-n-gt-LIST_LIMIT
returns-then-n-gt-LIST_LIMIT c = sym (draws_long _ _ c.if-n-gt-LIST_LIMIT.true)

pub returns-then-first-eq0 : goal.returns-then-first-eq0
returns-then-first-eq0 c = draws_made _ _ c.if-n-gt-LIST_LIMIT.false (omega (arith, c.if-first-eq0.true))

pub returns : goal.returns
returns c = draws_made _ _ c.if-n-gt-LIST_LIMIT.false (omega arith)
