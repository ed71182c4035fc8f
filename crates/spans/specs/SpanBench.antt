-- The rows of document 01's bench examples, those marked *, that draw between two ends from given words: one table, for the single table of
-- all of them.
use Rattle.std.specs.Prelude.{refl, List, [], ◌∷◌, ℕ, ℤ, pos, neg_ℤ}
use Rattle.words.specs.Refusal.{out_of_budget}
use Rattle.words.specs.Draw.{listed, first, first_good, bounded_by}
use Rattle.words.specs.Outcomes.{worked_on}
use Rattle.words.specs.Table.{Row, Holds, end, ◌&◌}
use Rattle.signed.specs.Signed.{gap}
use Rattle.spans.specs.declared.counting.IntOutcome.{IntOutcome}
use Rattle.spans.specs.Spans.{raw_by, span_by, int_refused, int_gives, signed_by, counted_from, int_by}

-- `int` from min to max from the given words, with a budget
abbrev pub between : ℤ → ℤ → List ℕ → ℕ → IntOutcome → Row
between min max words budget says = record { Kind = IntOutcome; gives = int_by (listed words) min max budget; says = says }

-- `int` over its full span
abbrev pub whole : List ℕ → ℕ → IntOutcome → Row
whole = between (neg_ℤ (pos 2147483648)) (pos 2147483647)

-- the rows
abbrev pub span_bench : List Row
span_bench =
    -- over its full span: 0 gives -2147483648, 0x80000000 gives 0, 0xFFFFFFFF gives 2147483647; one raw word, so that budget 0 refuses
    -- with 8
    whole (0 ∷ []) 1 (int_gives (neg_ℤ (pos 2147483648)) 1)
    ∷ whole (0x8000_0000 ∷ []) 1 (int_gives (pos 0) 1)
    ∷ whole (0xffff_ffff ∷ []) 1 (int_gives (pos 2147483647) 1)
    ∷ whole (0 ∷ []) 0 (int_refused out_of_budget)
    -- from -1 to 1: 0xFFFFFFFF gives 1
    ∷ between (neg_ℤ (pos 1)) (pos 1) (0xffff_ffff ∷ []) 1 (int_gives (pos 1) 1)
    -- from 5 to 5: 5, no word
    ∷ between (pos 5) (pos 5) [] 0 (int_gives (pos 5) 0)
    ∷ []

pub span_bench_holds : Holds span_bench
unfolding int_by counted_from signed_by worked_on span_by raw_by gap bounded_by first_good first
span_bench_holds = refl & refl & refl & refl & refl & refl & end
