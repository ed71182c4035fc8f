-- `next_ready` meets its contract, kind by kind.
use Rattle.random.specs.Generator.{rand_of, word_of, step}
use Rattle.random.specs.Ready.{drawn_ready}
use Rattle.random.specs.ReadyLaws.{twister_ready, twister_unready}
use Rattle.random.proofs.ready.next_ready.Goals as goal

pub returns-then-mti-lt-END : goal.returns-then-mti-lt-END
returns-then-mti-lt-END c =
    rw (c.in-MersenneTwister.is, c.answer-then-mti-lt-END.ensures)
    (twister_ready _ _ _ c.if-mti-lt-END.true c.temper_word-word.ensures)

pub returns-in-Xoshiro256PlusPlus : goal.returns-in-Xoshiro256PlusPlus
unfolding drawn_ready rand_of word_of step
returns-in-Xoshiro256PlusPlus c = rw (c.in-Xoshiro256PlusPlus.is, c.answer.ensures, c.next_u32-d.ensures)

pub returns-else-mti-lt-END : goal.returns-else-mti-lt-END
returns-else-mti-lt-END c = rw (c.in-MersenneTwister.is, c.answer-in-MersenneTwister.ensures) (twister_unready _ _ c.if-mti-lt-END.false)

pub returns-in-Pcg32 : goal.returns-in-Pcg32
unfolding drawn_ready rand_of word_of step
returns-in-Pcg32 c = rw (c.in-Pcg32.is, c.answer-in-Pcg32.ensures, c.next_u32-d-in-Pcg32.ensures)

pub returns-in-Pcg64 : goal.returns-in-Pcg64
unfolding drawn_ready rand_of word_of step
returns-in-Pcg64 c = rw (c.in-Pcg64.is, c.answer-in-Pcg64.ensures, c.next_u32-d-in-Pcg64.ensures)
