-- `bench_words_by_value` meets its contract: an unknown kind, and the row.
use Rattle.std.proofs.Common.{ap}
use Rattle.lent_state.specs.State.{Held}
use Rattle.lent_state.specs.AnswersLaws.{unknown_kind, wrote}
use Rattle.bench_values.specs.Rows.{xored_of}
use Rattle.bench_values.proofs.value_loops.bench_words_by_value.Goals as goal

pub returns-then-state-gt3 : goal.returns-then-state-gt3
returns-then-state-gt3 c = unknown_kind _ _ _ _ c.if-state-gt3.true

pub returns : goal.returns
returns c =
    let row = rw (c.with_table.ensures, ap (λ (h : Held). h.engine) c.held_in-held.ensures) at c.words_by_value-d.ensures in
    let state = rw c.engine_of.ensures at c.write.ensures in
    wrote _ _ _ _ c.if-state-gt3.false _ _ _ _ state (ap xored_of row)
