-- `draws_row` meets its contract. The loop's invariant: it has made i draws.
use Rattle.std.proofs.Common.{◌≡◌}
use Rattle.random.specs.Lent.{joined_with}
use Rattle.bench_lent.specs.Rows.{draws_row}
use Rattle.bench_lent.proofs.lent_loops.draws_row.Given as goal

abbrev pub invariant-loop-i : goal.invariant-loop-i
invariant-loop-i l =
    record { sum = l.sum; used = l.used; next = joined_with l.next l.mt }
    ≡ draws_row l.r l.budget l._i (joined_with l.initial.next l.initial.mt)
