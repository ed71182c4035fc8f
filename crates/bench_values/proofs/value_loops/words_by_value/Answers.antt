-- `words_by_value` meets its contract. The loop's invariant: it has XORed i words.
use Rattle.random.specs.WordsLaws.{xored_none, xored_more}
use Rattle.bench_values.proofs.value_loops.words_by_value.Goals as goal

pub loop-i-init : goal.loop-i-init
loop-i-init c = xored_none _

pub loop-i-preserved : goal.loop-i-preserved
loop-i-preserved c =
    let loop = c.loop-i in
    xored_more _ loop._i loop.word loop.next c.rand-d.result loop.invariant c.rand-d.ensures.answer
