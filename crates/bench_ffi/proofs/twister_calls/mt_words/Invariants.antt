-- `mt_words` meets its contract. The loop's invariant: it has come i words far.
use Rattle.mersenne_twister.specs.Table.{held}
use Rattle.bench_ffi.specs.Loops.{twister_step, twister_word}
use Rattle.bench_ffi.specs.Steps.{Came}
use Rattle.bench_ffi.proofs.twister_calls.mt_words.Given as goal

abbrev pub invariant-loop-i : goal.invariant-loop-i
invariant-loop-i l = Came twister_step twister_word (held l.initial.mt l.initial.at) l._i (held l.mt l.at) l.word
