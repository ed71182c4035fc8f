-- `pack` meets its contract: refused, settled by one word, and by more.
use borrow.Author.Tests.{eq-eqb, ne_eqb}
use Rattle.vrd_ffi.specs.Packed.{packed}
use Rattle.vrd_ffi.proofs.drawing.pack.Goals as goal

pub returns-then-refused-ne-ANSWERED : goal.returns-then-refused-ne-ANSWERED
unfolding packed
returns-then-refused-ne-ANSWERED c = rw (ne_eqb _ 0 c.if-refused-ne-ANSWERED.true)

pub returns-then-used-eq1 : goal.returns-then-used-eq1
unfolding packed
returns-then-used-eq1 c = rw (eq-eqb _ 0 c.if-refused-ne-ANSWERED.false, eq-eqb _ 1 c.if-used-eq1.true)

pub returns : goal.returns
unfolding packed
returns c = rw (eq-eqb _ 0 c.if-refused-ne-ANSWERED.false, ne_eqb _ 1 c.if-used-eq1.false)
