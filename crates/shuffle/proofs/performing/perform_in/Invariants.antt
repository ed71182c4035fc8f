-- `perform_in` meets its contract: the invariant is `Performing`, with a block of its length.
use mathlib.Core.Path.{◌≡◌}
use Prim.Native.Nat.{◌-◌}
use lib.ListN.{length}
use Rattle.random.specs.Lent.{joined_with}
use Rattle.shuffle.specs.PerformingLaws.{Performing}
use Rattle.shuffle.proofs.performing.perform_in.Given as goal

abbrev pub invariant-loop-t : goal.invariant-loop-t
invariant-loop-t l =
    Performing (joined_with l.initial.t.next l.initial.mt) l.d l.initial.list l.t (joined_with l.t.next l.mt) l.list
    × (length l.block ≡ 256)

abbrev pub decreases-loop-t : goal.decreases-loop-t
decreases-loop-t l = l.d.budget - l.t.used
