-- Worked examples of the definitions: SplitMix64 from 1234567, xoshiro256++ and its jump from the state 1, 2, 3, 4, and the states that
-- seeds give. The states are the original Rust's; those of 1234567 are also the first four words that SplitMix64 is published with.
use Rattle.std.specs.Prelude.{◌≡◌, ℕ, List, [], ◌∷◌, refl}
use Rattle.wrapping.specs.Bytes.{little}
use Rattle.xoshiro.specs.declared.Xoshiro256PlusPlus.{Xoshiro256PlusPlus}
use Rattle.xoshiro.specs.Generator.{parts, output, stepped}
use Rattle.xoshiro.specs.Jump.{turned, jumping, jumped}
use Rattle.xoshiro.specs.Seed.{four_words, seeded, seeded_bytes}
use Rattle.xoshiro.specs.SplitMix64.{next_state, mixed}

-- the state of the examples
abbrev small : Xoshiro256PlusPlus
small = parts 1 2 3 4

split_first : mixed (next_state 1234567) ≡ 6457827717110365317
unfolding mixed
split_first = refl

first : output small ≡ 41943041
unfolding output
first = refl

jump : jumped small ≡ parts 0x8c7a153956b5f3d1 0x701f1a713401d85e 0x6527f66a65469085 0x8386b786c4408050
unfolding jumped jumping turned stepped
jump = refl

-- ---- seeding

-- a seed number, by its four words in their order
number : seeded 1234567 ≡ parts 6457827717110365317 3203168211198807973 9817491932198370423 4593380528125082431
unfolding four_words mixed
number = refl

-- the number 0, which is replaced
zero_number : seeded 0 ≡ parts 0xa21b6adb811e1e19 0xd683d5ac69cda255 0x2cd96ba456a0ae72 0xc8c9cfc1b7c43ef4
unfolding four_words mixed
zero_number = refl

-- 32 different bytes: the powers of 3 modulo 257, from 3 on
abbrev powers_of_three : List ℕ
powers_of_three =
    3 ∷ 9 ∷ 27 ∷ 81 ∷ 243 ∷ 215 ∷ 131 ∷ 136 ∷ 151 ∷ 196 ∷ 74 ∷ 222 ∷ 152 ∷ 199 ∷ 83 ∷ 249
    ∷ 233 ∷ 185 ∷ 41 ∷ 123 ∷ 112 ∷ 79 ∷ 237 ∷ 197 ∷ 77 ∷ 231 ∷ 179 ∷ 23 ∷ 69 ∷ 207 ∷ 107 ∷ 64 ∷ []

bytes : seeded_bytes powers_of_three ≡ parts 0x5ffedcfaafbf39fe 0x832d6dfa5d943eca 0xcffcd40eabecb83a 0x1daf6b46aa396d79
unfolding little four_words mixed
bytes = refl
