-- The marked bench examples of document 01: one table, one theorem, of the definitions over given words. Draws below a bound, `int`, the
-- shuffle, floats and filled bytes each have their rows beside their definitions; here they are joined.
use Rattle.std.specs.Prelude.{List, ◌++◌}
use Rattle.filling.specs.FillBench.{fill_bench, fill_bench_holds}
use Rattle.floats.specs.Bench.{float_bench}
use Rattle.floats.proofs.Bench.{float_bench_holds}
use Rattle.shuffle.specs.ShuffleBench as shuffled
use Rattle.spans.specs.SpanBench.{span_bench, span_bench_holds}
use Rattle.words.specs.Bench as below
use Rattle.words.proofs.Bench as below_laws
use Rattle.words.specs.Table.{Row, Holds, join}

abbrev pub bench_table : List Row
bench_table = below.bench ++ (span_bench ++ (shuffled.bench ++ (float_bench ++ fill_bench)))

pub bench_table_holds : Holds bench_table
bench_table_holds =
    join below_laws.bench_holds (join span_bench_holds (join shuffled.bench_holds (join float_bench_holds fill_bench_holds)))
