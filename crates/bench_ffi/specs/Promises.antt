-- What each loop promises of its answer: its contract in src/, by name. The other exports have the promises of the library's calls.
use Rattle.std.specs.Prelude.{List, ◌≡◌, ℕ}
use Rattle.mersenne_twister.specs.Table.{held, stepped}
use Rattle.source.specs.declared.Drawn.{Drawn}
use Rattle.mersenne_twister.specs.declared.MersenneTwister.{MersenneTwister}
use Rattle.mersenne_twister.specs.declared.table.Step.{Step}
use Rattle.pcg.specs.declared.pcg32.Pcg32.{Pcg32}
use Rattle.pcg.specs.declared.pcg64.Pcg64.{Pcg64}
use Rattle.xoshiro.specs.declared.Xoshiro256PlusPlus.{Xoshiro256PlusPlus}
use Rattle.bench_ffi.specs.Loops.{pcg32_words, pcg64_words, twister_words, xoshiro_words}

-- a generator's own words in a row: kind 0,
abbrev pub XoshiroWordsPromise : Xoshiro256PlusPlus → ℕ → Drawn ℕ Xoshiro256PlusPlus → Type 0
XoshiroWordsPromise g n r = r ≡ xoshiro_words n g

-- kind 2,
abbrev pub Pcg32WordsPromise : Pcg32 → ℕ → Drawn ℕ Pcg32 → Type 0
Pcg32WordsPromise g n r = r ≡ pcg32_words n g

-- kind 3,
abbrev pub Pcg64WordsPromise : Pcg64 → ℕ → Drawn ℕ Pcg64 → Type 0
Pcg64WordsPromise g n r = r ≡ pcg64_words n g

-- kind 1 over a lent table,
abbrev pub TwisterWordsInPromise : List ℕ → ℕ → ℕ → Step ℕ → List ℕ → Type 0
TwisterWordsInPromise mt mti n r mt' = stepped r mt' ≡ twister_words n (held mt mti)

-- and by value
abbrev pub TwisterWordsPromise : MersenneTwister → ℕ → Drawn ℕ MersenneTwister → Type 0
TwisterWordsPromise g n r = r ≡ twister_words n g
