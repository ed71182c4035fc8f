-- `xored64` meets its contract. The loop's invariant: it has come i words far.
use Rattle.bench_ffi.specs.Steps.{Came}
use Rattle.bench_ffi.proofs.words_xored.xored64.Given as goal

abbrev pub invariant-loop-i : goal.invariant-loop-i
invariant-loop-i g l =
    Came (λ s. (g.S.Source.drawn64 s).next) (λ s. (g.S.Source.drawn64 s).word) l.initial.next l._i l.next l.word
