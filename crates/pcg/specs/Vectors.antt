-- Worked examples of the definitions: the increments in use of the default streams (document 01), and the first word of each of O'Neill's
-- demonstration programs, seed 42 and stream 54; at 128 bits her first word is this generator's second; and what byte seeds give.
use Rattle.std.specs.Prelude.{◌≡◌, ℕ, List, [], ◌∷◌, refl}
use Rattle.wrapping.specs.Bytes.{little}
use Rattle.wrapping.specs.declared.wide.Wide.{Wide}
use Rattle.pcg.specs.Lcg.{increment, seeded_state}
use Rattle.pcg.specs.Pcg32 as pcg32
use Rattle.pcg.specs.Pcg64 as pcg64

in_use_32 : increment 64 pcg32.default_stream ≡ 2885390081777926815
in_use_32 = refl

in_use_64 : increment 128 pcg64.default_stream ≡ 0xB0A3_E85A_992A_FE5A_280A_F6FD_EECF_029F
in_use_64 = refl

first_32 : pcg32.word_of (pcg32.seeded 42 54) ≡ 0xa15c02b7
unfolding seeded_state
first_32 = refl

first_64 : pcg64.word_of (pcg64.stepped (pcg64.seeded 42 54)) ≡ 0x86b1da1d72062b68
unfolding seeded_state
first_64 = refl

-- ---- byte seeds with an even stream: the bytes 0, 1, 2, .., and the state and the increment in use that the original Rust makes of them.
-- The stream's low bit is set before the shift, so the increments end on 3.

-- the first 16 bytes, and 16 more
abbrev sixteen : (rest : List ℕ) → List ℕ
sixteen rest = 0 ∷ 1 ∷ 2 ∷ 3 ∷ 4 ∷ 5 ∷ 6 ∷ 7 ∷ 8 ∷ 9 ∷ 10 ∷ 11 ∷ 12 ∷ 13 ∷ 14 ∷ 15 ∷ rest

abbrev sixteen_more : List ℕ
sixteen_more = 16 ∷ 17 ∷ 18 ∷ 19 ∷ 20 ∷ 21 ∷ 22 ∷ 23 ∷ 24 ∷ 25 ∷ 26 ∷ 27 ∷ 28 ∷ 29 ∷ 30 ∷ 31 ∷ []

-- a number of 128 bits by its two words
abbrev words : (high low : ℕ) → Wide
words high low = record { high = high; low = low }

bytes_32 : pcg32.seeded_bytes (sixteen []) ≡ pcg32.parts 0x096a2054307ad96a 0x1e1c1a1816141213
unfolding little seeded_state
bytes_32 = refl

bytes_64 : pcg64.seeded_bytes (sixteen sixteen_more)
    ≡ pcg64.parts (words 0x057e5411e3633545 0x7877017ca0133c92) (words 0x3e3c3a3836343230 0x2e2c2a2826242223)
unfolding little seeded_state
bytes_64 = refl
