-- A kind's number is at most 3.
use Rattle.std.specs.Prelude.{ℕ, ◌≤◌}
use Rattle.std.proofs.Common.{arith}
use Rattle.random.specs.declared.kind.Kind.{Kind}
use Rattle.random.specs.declared.kind.Kind.TheVariants as kind
use Rattle.random.specs.Kinds.{number_of}

pub number_small : (k : Kind) → number_of k ≤ 3
number_small kind.Xoshiro256PlusPlus = omega arith
number_small kind.MersenneTwister = omega arith
number_small kind.Pcg32 = omega arith
number_small kind.Pcg64 = omega arith
