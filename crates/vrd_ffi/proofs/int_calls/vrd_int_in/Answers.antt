-- `vrd_int_in` meets its contract, by `int_drawn`.
use Rattle.signed.specs.Callers.{arg_read}
use Rattle.vrd_ffi.proofs.int_calls.vrd_int_in.Goals as goal

pub returns : goal.returns
returns c =
    let f = c.ranges in
    rw (arg_read f.min, arg_read f.max) at c.int_drawn.ensures
