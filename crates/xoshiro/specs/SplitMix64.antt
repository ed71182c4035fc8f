-- SplitMix64, from Vigna's splitmix64.c (2015), over natural numbers: `x >> k` is x / 2 ^ k, `x ^ y` is bit_xor x y, and sums and
-- products are taken modulo 2 ^ 64.
use Rattle.std.specs.Prelude.{ℕ, ◌+◌, ◌*◌, ◌/◌, ◌%◌, ◌^◌, bit_xor}

-- x += 0x9e3779b97f4a7c15
abbrev pub next_state : ℕ → ℕ
next_state x = (x + 0x9E37_79B9_7F4A_7C15) % 2 ^ 64

-- z ^ (z >> k)
abbrev pub xor_shift : (k z : ℕ) → ℕ
xor_shift k z = bit_xor z (z / 2 ^ k)

-- z = (z ^ (z >> 30)) * 0xbf58476d1ce4e5b9; z = (z ^ (z >> 27)) * 0x94d049bb133111eb; return z ^ (z >> 31)
unfoldable pub mixed : ℕ → ℕ
mixed z = xor_shift 31 (xor_shift 27 (xor_shift 30 z * 0xBF58_476D_1CE4_E5B9 % 2 ^ 64) * 0x94D0_49BB_1331_11EB % 2 ^ 64)
