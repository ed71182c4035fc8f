-- `counted` meets its contract: answered, and refused.
use borrow.Author.Tests.{ne_eqb}
use mir.Syntax.{w32}
use Rattle.signed.specs.Callers.{arg_read, result_read}
use Rattle.vrd_ffi.specs.Counting.{counted_modulo}
use Rattle.vrd_ffi.proofs.int_calls.counted.Goals as goal

pub returns-then-a-eq-ANSWERED : goal.returns-then-a-eq-ANSWERED
unfolding counted_modulo
returns-then-a-eq-ANSWERED c =
    let d = c.wrapping_add_signed-value in
    rw (result_read w32 d.result d.type_inv, d.ensures, arg_read c.ranges.min, c.if-a-eq-ANSWERED.true)

pub returns : goal.returns
unfolding counted_modulo
returns c = rw (ne_eqb _ 0 c.if-a-eq-ANSWERED.false)
