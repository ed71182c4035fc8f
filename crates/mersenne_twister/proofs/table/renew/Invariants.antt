-- `renew` meets its contract. The invariant: the first i entries are renewed, in place; of the second and the third loop, if they were
-- where it began.
use Rattle.std.proofs.Common.{◌≡◌, ℕ, List}
use Rattle.mersenne_twister.specs.Table.{renewed}
use Rattle.mersenne_twister.proofs.table.renew.Given as goal

abbrev pub invariant-loop-i : goal.invariant-loop-i
invariant-loop-i l = l.mt ≡ renewed l.i l.initial.mt

abbrev pub invariant-loop-i-2 : goal.invariant-loop-i-2
invariant-loop-i-2 l = (t : List ℕ) → l.initial.mt ≡ renewed 227 t → l.mt ≡ renewed l.i t

abbrev pub invariant-loop-i-3 : goal.invariant-loop-i-3
invariant-loop-i-3 l = (t : List ℕ) → l.initial.mt ≡ renewed 454 t → l.mt ≡ renewed l.i t
