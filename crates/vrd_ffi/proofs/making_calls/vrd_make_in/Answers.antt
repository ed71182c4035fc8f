-- `vrd_make_in` meets its contract: the library's making, placed.
use Rattle.std.proofs.Common.{◌∙◌, ap}
use Rattle.vrd_ffi.specs.Handed.{made}
use Rattle.vrd_ffi.proofs.making_calls.vrd_make_in.Goals as goal

pub returns : goal.returns
returns c = rw c.number_of.ensures at c.place.ensures ∙ ap (made c.args.state.now c.args.table.now) c.make-m.ensures
