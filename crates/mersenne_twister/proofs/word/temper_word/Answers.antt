-- `temper_word` meets its contract: the code is the definition, step for step.
use Rattle.std.proofs.Common.{arith}
use Rattle.mersenne_twister.specs.Sequence.{temper1, temper2, temper3, temper4}
use Rattle.mersenne_twister.specs.Bounds.{temper_steps}
use Rattle.mersenne_twister.proofs.word.temper_word.Goals as goal

pub returns : goal.returns
unfolding temper1 temper2 temper3 temper4
returns c = temper_steps c.args.x (omega (arith, c.ranges.x))
