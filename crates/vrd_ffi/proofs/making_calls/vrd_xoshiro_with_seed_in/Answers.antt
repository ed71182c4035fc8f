-- `vrd_xoshiro_with_seed_in` meets its contract.
use Rattle.vrd_ffi.proofs.making_calls.vrd_xoshiro_with_seed_in.Goals as goal

pub returns : goal.returns
returns c = rw (c.begin.ensures, c.engine_of.ensures, c.from_u64_seed.ensures)
