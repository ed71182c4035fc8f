-- What each public call promises of its answer: the contracts of src/, by name.
use Rattle.std.specs.Prelude.{◌≡◌, ℕ, List}
use Rattle.wrapping.specs.Bytes.{little}
use Rattle.wrapping.specs.Product.{lower_word, upper_word}
use Rattle.wrapping.specs.Rotate.{rotate_left, rotate_right}
use Rattle.wrapping.specs.Wide.{wide_product, wide_sum}
use Rattle.wrapping.specs.declared.wide.Wide.{Wide}

-- `le_u32`: the number of the four bytes from `at` on, the lowest first
abbrev pub LeU32Promise : List ℕ → ℕ → ℕ → Type 0
LeU32Promise s at r = r ≡ little 4 s at

-- `le_u64`: the number of the eight bytes from `at` on, the lowest first
abbrev pub LeU64Promise : List ℕ → ℕ → ℕ → Type 0
LeU64Promise s at r = r ≡ little 8 s at

-- `mul_u32`: the product modulo 2 ^ 32
abbrev pub MulU32Promise : ℕ → ℕ → ℕ → Type 0
MulU32Promise a b r = r ≡ lower_word 32 a b

-- `mul_u64`: the product modulo 2 ^ 64
abbrev pub MulU64Promise : ℕ → ℕ → ℕ → Type 0
MulU64Promise a b r = r ≡ lower_word 64 a b

-- `upper_u64`: the product divided by 2 ^ 64
abbrev pub UpperU64Promise : ℕ → ℕ → ℕ → Type 0
UpperU64Promise a b r = r ≡ upper_word 64 a b

-- `rotate_left_u32`: x rotated left by k bits, k modulo 32
abbrev pub RotateLeftU32Promise : ℕ → ℕ → ℕ → Type 0
RotateLeftU32Promise x k r = r ≡ rotate_left 32 x k

-- `rotate_right_u32`: x rotated right by k bits, k modulo 32
abbrev pub RotateRightU32Promise : ℕ → ℕ → ℕ → Type 0
RotateRightU32Promise x k r = r ≡ rotate_right 32 x k

-- `rotate_left_u64`: x rotated left by k bits, k modulo 64
abbrev pub RotateLeftU64Promise : ℕ → ℕ → ℕ → Type 0
RotateLeftU64Promise x k r = r ≡ rotate_left 64 x k

-- `rotate_right_u64`: x rotated right by k bits, k modulo 64
abbrev pub RotateRightU64Promise : ℕ → ℕ → ℕ → Type 0
RotateRightU64Promise x k r = r ≡ rotate_right 64 x k

-- `Wide::wrapping_add`: the sum modulo 2 ^ 128
abbrev pub WideWrappingAddPromise : Wide → Wide → Wide → Type 0
WideWrappingAddPromise self other r = r ≡ wide_sum self other

-- `Wide::wrapping_mul`: the product modulo 2 ^ 128
abbrev pub WideWrappingMulPromise : Wide → Wide → Wide → Type 0
WideWrappingMulPromise self other r = r ≡ wide_product self other
