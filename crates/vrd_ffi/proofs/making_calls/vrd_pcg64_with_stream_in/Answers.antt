-- `vrd_pcg64_with_stream_in` meets its contract.
use Rattle.vrd_ffi.proofs.making_calls.vrd_pcg64_with_stream_in.Goals as goal

pub returns : goal.returns
returns c = rw (c.begin.ensures, c.engine_of.ensures, c.new_pcg64_with_stream.ensures)
