-- `chosen` meets its contract: answered, and refused.
use borrow.Author.Tests.{ne_eqb}
use Rattle.vrd_ffi.proofs.choose_calls.chosen.Goals as goal

pub entry_at-requires : goal.entry_at-requires
entry_at-requires c = c.requires c.if-a-eq-ANSWERED.true

pub returns-then-a-eq-ANSWERED : goal.returns-then-a-eq-ANSWERED
returns-then-a-eq-ANSWERED c = rw (c.entry_at.ensures, c.if-a-eq-ANSWERED.true)

pub returns : goal.returns
returns c = rw (ne_eqb _ 0 c.if-a-eq-ANSWERED.false)
