-- The jump of xoshiro256plusplus.c: over the 256 bits of JUMP, words in order and bits from 0 up, the states at the bits that are 1 are
-- XORed, and the state steps at each bit. That this is 2^128 steps is the authors' claim; nothing here rests on it.
use Rattle.std.specs.Prelude.{ℕ, zero, suc, ◌/◌, ◌%◌, ◌^◌, Bool, true, false, List, [], ◌∷◌, ◌==◌, bit_xor, slice_index}
use Rattle.xoshiro.specs.declared.Xoshiro256PlusPlus.{Xoshiro256PlusPlus}
use Rattle.xoshiro.specs.declared.jump.Jumping.{Jumping}
use Rattle.xoshiro.specs.Generator.{parts, stepped}

-- the authors' JUMP
abbrev pub jump_words : List ℕ
jump_words = 0x180E_C6D3_3CFD_0ABA ∷ 0xD5A6_1266_F0C9_392C ∷ 0xA958_2618_E03F_C9AA ∷ 0x39AB_DC45_29B1_661C ∷ []

-- JUMP[i / 64] & (1 << i % 64)
abbrev pub jump_bit : ℕ → ℕ
jump_bit i = slice_index jump_words (i / 64) / 2 ^ (i % 64) % 2

-- s0 ^= s[0]; s1 ^= s[1]; s2 ^= s[2]; s3 ^= s[3]
abbrev pub xored : Xoshiro256PlusPlus → Xoshiro256PlusPlus → Xoshiro256PlusPlus
xored x y = parts (bit_xor x.s0 y.s0) (bit_xor x.s1 y.s1) (bit_xor x.s2 y.s2) (bit_xor x.s3 y.s3)

-- the sum of the states, with one more where the bit is 1
abbrev pub picked : (isOne : Bool) (x y : Xoshiro256PlusPlus) → Xoshiro256PlusPlus
picked true x y = xored x y
picked false x y = x

-- one bit: the state is picked where it is 1, and steps
unfoldable pub turned : ℕ → Jumping → Jumping
turned i j = record { sum = picked (jump_bit i == 1) j.sum j.at; at = stepped j.at }

-- after the first n bits
unfoldable pub jumping : ℕ → Xoshiro256PlusPlus → Jumping
jumping zero x = record { sum = parts 0 0 0 0; at = x }
jumping (suc n) x = turned n (jumping n x)

-- after all 256 bits, the sum is the new state
unfoldable pub jumped : Xoshiro256PlusPlus → Xoshiro256PlusPlus
jumped x = (jumping 256 x).sum
