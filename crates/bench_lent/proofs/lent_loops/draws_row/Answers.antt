-- `draws_row` meets its contract. The loop's invariant: it has made i draws.
use Rattle.bench_lent.specs.RowsLaws.{row_begins, row_goes_on}
use Rattle.bench_lent.proofs.lent_loops.draws_row.Goals as goal
use Rattle.bench_lent.proofs.lent_loops.draws_row.Goals.{in-Ok, in-Err}

pub loop-i-init : goal.loop-i-init
loop-i-init c = row_begins _ _ _

pub loop-i-preserved : goal.loop-i-preserved
loop-i-preserved c =
    let more = row_goes_on _ _ c.loop-i._i _ c.loop-i.invariant c.bounded_in-a.ensures.answer in
    elim c.match-a.branch [
      | in-Ok w ↦ rw (w.value-is, w.in-Ok.is) (rw w.in-Ok.is at more)
      | in-Err w ↦ rw w.value-is (rw w.in-Err.is at more)
    ]
