-- The rows of document 01's bench examples, those marked *, that draw below a bound from given words: one table, for the single table of
-- all of them.
use Rattle.std.specs.Prelude.{refl}
use Rattle.std.proofs.Common.{lit<}
use Rattle.words.specs.Draw.{first, first_good, bounded_by}
use Rattle.words.specs.EqualShares.{equal_shares}
use Rattle.words.specs.Table.{Holds, end, ◌&◌}
use Rattle.words.specs.Bench.{bench}

pub bench_holds : Holds bench
unfolding bounded_by first_good first
bench_holds =
    refl & refl & refl & refl & refl & refl & refl &
    refl & refl & refl & refl &
    equal_shares 6 0 (lit< tt) & equal_shares 6 1 (lit< tt) & equal_shares 6 2 (lit< tt) &
    equal_shares 6 3 (lit< tt) & equal_shares 6 4 (lit< tt) & equal_shares 6 5 (lit< tt) &
    refl & refl &
    refl & refl & refl &
    refl & end
