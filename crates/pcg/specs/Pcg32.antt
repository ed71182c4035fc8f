-- PCG-XSH-RR-64/32 of O'Neill's paper: 64 bits of state, words of 32 bits. `x >> k` is x / 2 ^ k and `x ^ y` is bit_xor x y.
use Rattle.std.specs.Prelude.{ℕ, ◌+◌, ◌*◌, ◌/◌, ◌%◌, ◌^◌, List, bit_xor}
use Rattle.wrapping.specs.Bytes.{little}
use Rattle.wrapping.specs.Rotate.{rotate_right}
use Rattle.pcg.specs.Lcg.{affine, increment, seeded_state, low_bit_set}
use Rattle.pcg.specs.declared.pcg32.Pcg32.{Pcg32}
use Rattle.source.specs.declared.Drawn.{Drawn}

-- the multiplier of the step, O'Neill's for 64 bits
abbrev pub multiplier : ℕ
multiplier = 6364136223846793005

-- the generator with this state and the increment in use
abbrev pub parts : (state inc : ℕ) → Pcg32
parts state inc = record { state = state; inc = inc }

-- the state after a state
abbrev pub next_state : (inc state : ℕ) → ℕ
next_state inc state = affine 64 multiplier inc state

-- XSH-RR: rotr32(((state >> 18) ^ state) >> 27, state >> 59)
abbrev pub output : ℕ → ℕ
output s = rotate_right 32 (bit_xor (s / 2 ^ 18) s / 2 ^ 27 % 2 ^ 32) (s / 2 ^ 59)

-- the generator after a word
abbrev pub stepped : Pcg32 → Pcg32
stepped g = parts (next_state g.inc g.state) g.inc

-- its word, made of the state
abbrev pub word_of : Pcg32 → ℕ
word_of g = output g.state

-- one word, made of the old state
abbrev pub drawn : Pcg32 → Drawn ℕ Pcg32
drawn g = record { word = word_of g; next = stepped g }

-- two words, the low one first (document 01; the paper has none)
abbrev pub drawn_twice : Pcg32 → Drawn ℕ Pcg32
drawn_twice g = record { word = word_of (stepped g) * 2 ^ 32 + word_of g; next = stepped (stepped g) }

-- the generator of a seed number and a stream
abbrev pub seeded : (seed stream : ℕ) → Pcg32
seeded seed stream = parts (seeded_state 64 multiplier (increment 64 stream) seed) (increment 64 stream)

-- what a seed number alone takes for its stream
abbrev pub default_stream : ℕ
default_stream = 1442695040888963407

-- 16 bytes: the seed and then the stream, little-endian
abbrev pub seeded_bytes : List ℕ → Pcg32
seeded_bytes s = seeded (little 8 s 0) (low_bit_set (little 8 s 8))
