-- `uniform_number` meets its contract, by the two cases of the answer.
use Rattle.vrd_ffi.proofs.float_calls.uniform_number.Goals as goal

pub returns-in-Number : goal.returns-in-Number
returns-in-Number c = rw c.in-Number.is

pub returns-in-Refused : goal.returns-in-Refused
returns-in-Refused c = rw c.in-Refused.is
