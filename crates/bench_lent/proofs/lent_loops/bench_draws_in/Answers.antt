-- `bench_draws_in` meets its contract: an unknown kind, and the row.
use Rattle.std.proofs.Common.{ap}
use Rattle.lent_state.specs.AnswersLaws.{unknown_kind, wrote}
use Rattle.lent_state.specs.State.{Held}
use Rattle.bench_lent.specs.Rows.{sums_of}
use Rattle.bench_lent.proofs.lent_loops.bench_draws_in.Goals as goal

pub returns-then-state-gt3 : goal.returns-then-state-gt3
returns-then-state-gt3 c = unknown_kind _ _ _ _ c.if-state-gt3.true

pub returns : goal.returns
returns c =
    let row = rw (ap (λ (h : Held). h.engine) c.held_in-held.ensures) at c.draws_row-s.ensures in
    wrote _ _ _ _ c.if-state-gt3.false _ _ _ _ c.write.ensures (ap sums_of row)
