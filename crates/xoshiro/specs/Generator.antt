-- xoshiro256++ 1.0, from Blackman and Vigna's xoshiro256plusplus.c (2019), over natural numbers: `x << k` of 64 bits is
-- (x * 2 ^ k) % 2 ^ 64, `x ^ y` is bit_xor x y, and sums are taken modulo 2 ^ 64.
use Rattle.std.specs.Prelude.{ℕ, ◌+◌, ◌*◌, ◌/◌, ◌%◌, ◌^◌, bit_xor}
use Rattle.wrapping.specs.Rotate.{rotate_left}
use Rattle.xoshiro.specs.declared.Xoshiro256PlusPlus.{Xoshiro256PlusPlus}
use Rattle.source.specs.declared.Drawn.{Drawn}

-- the state with these words
abbrev pub parts : (s0 s1 s2 s3 : ℕ) → Xoshiro256PlusPlus
parts s0 s1 s2 s3 = record { s0 = s0; s1 = s1; s2 = s2; s3 = s3 }

-- result = rotl(s[0] + s[3], 23) + s[0]
unfoldable pub output : Xoshiro256PlusPlus → ℕ
output x = (rotate_left 64 ((x.s0 + x.s3) % 2 ^ 64) 23 + x.s0) % 2 ^ 64

-- t = s[1] << 17; s[2] ^= s[0]; s[3] ^= s[1]; s[1] ^= s[2]; s[0] ^= s[3]; s[2] ^= t; s[3] = rotl(s[3], 45)
unfoldable pub stepped : Xoshiro256PlusPlus → Xoshiro256PlusPlus
stepped x =
    let t = (x.s1 * 2 ^ 17) % 2 ^ 64 in
    let s2 = bit_xor x.s2 x.s0 in
    let s3 = bit_xor x.s3 x.s1 in
    let s1 = bit_xor x.s1 s2 in
    let s0 = bit_xor x.s0 s3 in
    parts s0 s1 (bit_xor s2 t) (rotate_left 64 s3 45)

-- a word is the old state's, and the state steps
abbrev pub drawn : Xoshiro256PlusPlus → Drawn ℕ Xoshiro256PlusPlus
drawn x = record { word = output x; next = stepped x }

-- the 32-bit word is the high half (document 01; the authors' file has none)
abbrev pub drawn_high : Xoshiro256PlusPlus → Drawn ℕ Xoshiro256PlusPlus
drawn_high x = record { word = output x / 2 ^ 32; next = stepped x }
