-- The loops' answers: the XOR of the next n words, and the generator after them.
use Rattle.std.specs.Prelude.{ℕ}
use Rattle.bench_ffi.specs.Steps.{after, xor_of}
use Rattle.mersenne_twister.specs.Table as twister
use Rattle.source.specs.declared.Drawn.{Drawn}
use Rattle.mersenne_twister.specs.declared.MersenneTwister.{MersenneTwister}
use Rattle.pcg.specs.Pcg32 as pcg32
use Rattle.pcg.specs.Pcg64 as pcg64
use Rattle.pcg.specs.declared.pcg32.Pcg32.{Pcg32}
use Rattle.pcg.specs.declared.pcg64.Pcg64.{Pcg64}
use Rattle.xoshiro.specs.Generator as xoshiro
use Rattle.xoshiro.specs.declared.Xoshiro256PlusPlus.{Xoshiro256PlusPlus}

-- words in a row of a generator, by what it draws
abbrev pub words_of : {A : Type 0} (drawn : A → Drawn ℕ A) → ℕ → A → Drawn ℕ A
words_of drawn n g = record { word = xor_of (λ a. (drawn a).next) (λ a. (drawn a).word) n g; next = after (λ a. (drawn a).next) n g }

-- words of kind 0 in a row,
abbrev pub xoshiro_words : ℕ → Xoshiro256PlusPlus → Drawn ℕ Xoshiro256PlusPlus
xoshiro_words n g = record { word = xor_of xoshiro.stepped xoshiro.output n g; next = after xoshiro.stepped n g }

-- of kind 2,
abbrev pub pcg32_words : ℕ → Pcg32 → Drawn ℕ Pcg32
pcg32_words n g = record { word = xor_of pcg32.stepped pcg32.word_of n g; next = after pcg32.stepped n g }

-- of kind 3,
abbrev pub pcg64_words : ℕ → Pcg64 → Drawn ℕ Pcg64
pcg64_words n g = record { word = xor_of pcg64.stepped pcg64.word_of n g; next = after pcg64.stepped n g }

-- the twister's state and word, off a draw
abbrev pub twister_step : MersenneTwister → MersenneTwister
twister_step g = (twister.drawn g).next

-- and its word
abbrev pub twister_word : MersenneTwister → ℕ
twister_word g = (twister.drawn g).word

-- the twister's words in a row
abbrev pub twister_words : ℕ → MersenneTwister → Drawn ℕ MersenneTwister
twister_words n g = record { word = xor_of twister_step twister_word n g; next = after twister_step n g }
