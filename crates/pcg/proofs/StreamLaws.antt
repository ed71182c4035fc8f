-- What follows of streams, at every width: the increment in use is odd and fits its width, and streams that differ in their top bit
-- alone, or as byte seeds in their low bit alone, give one increment.
use Rattle.std.specs.Prelude.{◌≡◌, ℕ, suc, ◌+◌, ◌*◌, ◌/◌, ◌%◌, ◌^◌, ◌<◌}
use Rattle.std.proofs.Common.{arith, div-add-mod', mod-lt, pow-suc, pow_pos}
use Rattle.std.proofs.Math.Nat.{add-mod_right}
use Rattle.std.proofs.Math.Arith.{digits_mod}
use Rattle.pcg.specs.Lcg.{increment, low_bit_set}

-- the shift drops the top bit: what is left is twice the stream without it
shifted : (w s : ℕ) → (s * 2) % 2 ^ suc w ≡ s % 2 ^ w * 2
shifted w s =
    let whole = div-add-mod' s (2 ^ w) in
    let twice : s * 2 ≡ s / 2 ^ w * (2 ^ w * 2) + s % 2 ^ w * 2 = omega arith in
    let room : s % 2 ^ w * 2 < 2 ^ w * 2 = omega (arith, mod-lt s (pow_pos w)) in
    rw (pow-suc, twice) (digits_mod (s / 2 ^ w) room)

-- the increment in use: the stream without its top bit, shifted, plus 1
pub increment_is : (w s : ℕ) → increment (suc w) s ≡ s % 2 ^ w * 2 + 1
increment_is w s = rw (shifted w s)

-- it is odd
pub increment_odd : (w s : ℕ) → increment (suc w) s % 2 ≡ 1
increment_odd w s = rw (shifted w s) (omega arith)

-- and fits the width
pub increment_fits : (w s : ℕ) → increment (suc w) s < 2 ^ suc w
increment_fits w s = rw (shifted w s, pow-suc) (omega (arith, mod-lt s (pow_pos w)))

-- the increment as a sum that wraps
pub increment_sum : (w s : ℕ) → (s + s + 1) % 2 ^ suc w ≡ increment (suc w) s
increment_sum w s =
    let whole = div-add-mod' s (2 ^ w) in
    let twice : s + s + 1 ≡ s / 2 ^ w * (2 ^ w * 2) + (s % 2 ^ w * 2 + 1) = omega arith in
    let room : s % 2 ^ w * 2 + 1 < 2 ^ w * 2 = omega (arith, mod-lt s (pow_pos w)) in
    rw (shifted w s, pow-suc, twice) (digits_mod (s / 2 ^ w) room)

-- streams that differ in the top bit alone
pub top_bit_lost : (w s : ℕ) → increment (suc w) (s + 2 ^ w) ≡ increment (suc w) s
top_bit_lost w s = rw (shifted w (s + 2 ^ w), shifted w s, add-mod_right)

-- byte seeds' streams that differ in the low bit alone
pub low_bit_lost : (k : ℕ) → low_bit_set (k * 2 + 1) ≡ low_bit_set (k * 2)
low_bit_lost k = omega arith
