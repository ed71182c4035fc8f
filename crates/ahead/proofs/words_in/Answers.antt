-- `words_in` meets its contract, kind by kind.
use Rattle.ahead.specs.AheadLaws.{put_all, xoshiro_holds, pcg32_holds, pcg64_holds}
use Rattle.ahead.proofs.words_in.Goals as goal

pub returns-in-Xoshiro256PlusPlus : goal.returns-in-Xoshiro256PlusPlus
returns-in-Xoshiro256PlusPlus c = rw c.in-Xoshiro256PlusPlus.is (put_all (c.source_words.ensures _ (xoshiro_holds _)))

pub returns-in-MersenneTwister : goal.returns-in-MersenneTwister
returns-in-MersenneTwister c = rw c.in-MersenneTwister.is (put_all c.twister_words-mti.ensures)

pub returns-in-Pcg32 : goal.returns-in-Pcg32
returns-in-Pcg32 c = rw c.in-Pcg32.is (put_all (c.source_words-in-Pcg32.ensures _ (pcg32_holds _)))

pub returns-in-Pcg64 : goal.returns-in-Pcg64
returns-in-Pcg64 c = rw c.in-Pcg64.is (put_all (c.source_words-in-Pcg64.ensures _ (pcg64_holds _)))
