-- `draws_by_value` meets its contract. The loop's invariant: it has made i draws.
use Rattle.std.proofs.Common.{◌≡◌}
use Rattle.bench_lent.specs.Rows.{draws_row}
use Rattle.bench_values.proofs.value_loops.draws_by_value.Given as goal

abbrev pub invariant-loop-i : goal.invariant-loop-i
invariant-loop-i l = record { sum = l.sum; used = l.used; next = l.next } ≡ draws_row l.r l.budget l._i l.initial.next
