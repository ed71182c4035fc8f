-- `twister_run` meets its contract: the invariant is that the draws stand after `used` words where the code says.
use Prim.Native.Nat.{◌-◌}
use Rattle.mersenne_twister.specs.Table.{held}
use Rattle.random.specs.Generator.{gen}
use Rattle.random.specs.declared.backend.Backend.TheVariants as kinds
use Rattle.rehearsal.specs.Standing.{Looking}
use Rattle.rehearsal.proofs.rehearsing.twister_run.Given as goal

abbrev pub invariant-loop-settled : goal.invariant-loop-settled
invariant-loop-settled l =
    Looking (gen kinds.MersenneTwister (held l.initial.mt l.initial.at)) l.d l.used l.settled l.bound
    (gen kinds.MersenneTwister (held l.mt l.at))

abbrev pub decreases-loop-settled : goal.decreases-loop-settled
decreases-loop-settled l = l.d.budget - l.used
