-- One turn of the loop over draws.
use Rattle.std.specs.Prelude.{◌≡◌, ℕ, ◌+◌, refl}
use Rattle.std.proofs.Common.{add-one}
use Rattle.random.specs.declared.backend.Random.{Random}
use Rattle.bounded.specs.declared.answers.Answer.{Answer}
use Rattle.bench_lent.specs.Rows.{one_draw, plus, draws_row}
use Rattle.bench_lent.specs.declared.lent_loops.Total.{Total}

pub row_begins : (r budget : ℕ) (g : Random) → record { sum = 0; used = 0; next = g } ≡ draws_row r budget 0 g
unfolding draws_row
row_begins r budget g = refl

pub row_goes_on : {t : Total Random} {a : Answer Random} (r budget n : ℕ) (g : Random)
    → t ≡ draws_row r budget n g → a ≡ one_draw r budget t.next → plus t a ≡ draws_row r budget (n + 1) g
unfolding draws_row
row_goes_on r budget n g e d = rw (add-one, d, e)
