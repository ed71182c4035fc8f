-- `jump` meets its contract. The loop's invariant: after i turns the jump has come as far as `jumping i`.
use Rattle.std.proofs.Common.{◌≡◌}
use Rattle.xoshiro.specs.Jump.{jumping}
use Rattle.xoshiro.proofs.Xoshiro256PlusPlus.jump.Given as goal

abbrev pub invariant-loop-i : goal.invariant-loop-i
invariant-loop-i l = l.j ≡ jumping l.i l.initial.j.at
