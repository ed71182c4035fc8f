-- PCG-XSL-RR-128/64 of O'Neill's paper: 128 bits of state, held as two words, and words of 64 bits. The output is that of the old
-- state, as the Rust has it; O'Neill's library steps first at this width, so its words are these without the first.
use Rattle.std.specs.Prelude.{ℕ, ◌/◌, ◌%◌, ◌^◌, List, bit_xor}
use Rattle.wrapping.specs.Bytes.{little}
use Rattle.wrapping.specs.Rotate.{rotate_right}
use Rattle.wrapping.specs.Wide.{value, wide}
use Rattle.wrapping.specs.declared.wide.Wide.{Wide}
use Rattle.pcg.specs.Lcg.{affine, increment, seeded_state, low_bit_set}
use Rattle.pcg.specs.declared.pcg64.Pcg64.{Pcg64}
use Rattle.source.specs.declared.Drawn.{Drawn}

-- the multiplier of the step, O'Neill's for 128 bits
abbrev pub multiplier : ℕ
multiplier = 0x2360_ED05_1FC6_5DA4_4385_DF64_9FCC_F645

-- the generator with this state and the increment in use
abbrev pub parts : (state inc : Wide) → Pcg64
parts state inc = record { state = state; inc = inc }

-- the state after a state
abbrev pub next_state : (inc state : Wide) → Wide
next_state inc state = wide (affine 128 multiplier (value inc) (value state))

-- XSL-RR: rotr64((uint64_t)(state >> 64) ^ (uint64_t)state, state >> 122)
abbrev pub output : Wide → ℕ
output s = rotate_right 64 (bit_xor (value s / 2 ^ 64 % 2 ^ 64) (value s % 2 ^ 64)) (value s / 2 ^ 122)

-- the generator after a word
abbrev pub stepped : Pcg64 → Pcg64
stepped g = parts (next_state g.inc g.state) g.inc

-- its word, made of the state
abbrev pub word_of : Pcg64 → ℕ
word_of g = output g.state

-- one word, made of the old state
abbrev pub drawn : Pcg64 → Drawn ℕ Pcg64
drawn g = record { word = word_of g; next = stepped g }

-- the 32-bit word is the high half (document 01; the paper has none)
abbrev pub drawn_high : Pcg64 → Drawn ℕ Pcg64
drawn_high g = record { word = word_of g / 2 ^ 32; next = stepped g }

-- the increment of a stream, held as two words
abbrev pub increment_of : Wide → Wide
increment_of stream = wide (increment 128 (value stream))

-- the generator of a seed number and a stream
abbrev pub seeded : (seed stream : ℕ) → Pcg64
seeded seed stream = parts (wide (seeded_state 128 multiplier (increment 128 stream) seed)) (wide (increment 128 stream))

-- what a seed number alone takes for its stream
abbrev pub default_stream : ℕ
default_stream = 0x5851_F42D_4C95_7F2D_1405_7B7E_F767_814F

-- 32 bytes: the seed and then the stream, little-endian
abbrev pub seeded_bytes : List ℕ → Pcg64
seeded_bytes s = seeded (little 16 s 0) (low_bit_set (little 16 s 16))
