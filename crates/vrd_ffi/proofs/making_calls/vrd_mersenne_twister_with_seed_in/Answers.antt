-- `vrd_mersenne_twister_with_seed_in` meets its contract.
use Rattle.vrd_ffi.proofs.making_calls.vrd_mersenne_twister_with_seed_in.Goals as goal

pub returns : goal.returns
returns c = rw (c.begin.ensures, c.engine_of.ensures, c.new_mersenne_twister_with_seed-g.ensures)
