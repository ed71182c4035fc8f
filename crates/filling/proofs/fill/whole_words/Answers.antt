-- `whole_words` meets its contract, kind by kind: what the loop of a kind writes is what its generator's own words are.
use Rattle.filling.specs.FillKinds.{xoshiro_own, twister_own, pcg32_own, pcg64_own}
use Rattle.filling.proofs.fill.whole_words.Goals as goal

pub returns-in-Xoshiro256PlusPlus : goal.returns-in-Xoshiro256PlusPlus
returns-in-Xoshiro256PlusPlus c = rw c.in-Xoshiro256PlusPlus.is (xoshiro_own _ c.words_of_64.ensures)

pub returns-in-MersenneTwister : goal.returns-in-MersenneTwister
returns-in-MersenneTwister c = rw c.in-MersenneTwister.is (twister_own c.words_of_twister-mti.ensures)

pub returns-in-Pcg32 : goal.returns-in-Pcg32
returns-in-Pcg32 c = rw c.in-Pcg32.is (pcg32_own _ c.words_of_32.ensures)

pub returns-in-Pcg64 : goal.returns-in-Pcg64
returns-in-Pcg64 c = rw c.in-Pcg64.is (pcg64_own _ c.words_of_64-in-Pcg64.ensures)
