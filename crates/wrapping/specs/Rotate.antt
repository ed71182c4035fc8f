-- Rotations of a number of w bits: what leaves at one end comes in at the other. The amount is taken modulo the width, as the Rust takes
-- it.
use Rattle.std.specs.Prelude.{ℕ, ◌+◌, ◌-◌, ◌*◌, ◌/◌, ◌%◌, ◌^◌}

-- by k bits, k at most w: the lower w - k bits move up, and the upper k come in below
abbrev pub turn : (w x k : ℕ) → ℕ
turn w x k = (x * 2 ^ k) % 2 ^ w + x / 2 ^ (w - k)

-- to the left by k bits, k modulo w
abbrev pub rotate_left : (w x k : ℕ) → ℕ
rotate_left w x k = turn w x (k % w)

-- to the right by k bits is to the left by the other w - k
abbrev pub rotate_right : (w x k : ℕ) → ℕ
rotate_right w x k = turn w x (w - k % w)
