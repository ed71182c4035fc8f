-- `is_wide` meets its contract: kind 0, kind 3, and the others.
use Rattle.vrd_ffi.specs.MovesLaws.{known_narrow}
use Rattle.vrd_ffi.proofs.moves.is_wide.Goals as goal

pub returns-then-kind-eq0 : goal.returns-then-kind-eq0
returns-then-kind-eq0 c = λ other. absurd (other c.if-kind-eq0.true)

pub returns-then-kind-eq3 : goal.returns-then-kind-eq3
returns-then-kind-eq3 c = λ other. c.if-kind-eq3.true

pub returns : goal.returns
returns c = known_narrow _ c.if-kind-eq0.false c.if-kind-eq3.false
