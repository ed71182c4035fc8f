-- `read_number` meets its contract: the invariant is `Reading`.
use Rattle.week.specs.DecimalLaws.{Reading}
use Rattle.week.proofs.decimal.read_number.Given as goal

abbrev pub invariant-loop-byte : goal.invariant-loop-byte
invariant-loop-byte l = Reading l.text l.number l.byte-index
