-- `uniform` meets its contract: what is drawn over the lent table is the generator's. At every call the low end is a float of the format:
-- so what it answers is never -0.0.
use Rattle.std.proofs.Common.{rules}
use Rattle.float_draws.proofs.Laws.{uniform_never_minus_zero}
use Rattle.float_draws.specs.Promises.{UniformPromise}
use Rattle.float_draws.proofs.intervals.uniform.Goals as goal

pub returns : goal.returns
returns c =
    let told = rw c.engine_of.ensures at c.uniform_in-d.ensures in
    let answer : UniformPromise c.args.g c.args.i (record { answer = c.uniform_in-d.result.answer; next = c.with_table-next.result }) =
    rw c.with_table-next.ensures told in
    record { answer = answer; never_minus_zero = uniform_never_minus_zero c.args.g c.args.i answer (search rules) }
