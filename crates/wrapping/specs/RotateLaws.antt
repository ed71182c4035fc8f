-- The laws of rotations, once over the width.
use Rattle.std.specs.Prelude.{◌≡◌, ℕ, zero, suc, ◌+◌, ◌-◌, ◌*◌, ◌/◌, ◌%◌, ◌^◌, ◌<◌, bit_or}
use Rattle.std.specs.Int.Bits.{or_self}
use Rattle.std.proofs.Common.{sym, ◌∙◌, add_comm, mul-one, mod-lt, mod-eq_of_lt, div-le_self, lt_of_le_of_lt, arith, pow_pos, shr_lt}
use Rattle.std.proofs.Math.Nat.{mul-mod_left, div-eq_of_lt, div-one, mod_self, sub-zero}
use Rattle.std.proofs.lemmas.Nat.{or_comm, or_lt, or_shifted, shl-shr, mod-pow-add}
use Rattle.wrapping.specs.Rotate.{turn, rotate_left, rotate_right}

-- the part that is shifted up and the part that comes in below share no bit, so `|` joins them
pub turned : (w x j k : ℕ) → j + k ≡ w → x < 2 ^ w → bit_or ((x * 2 ^ k) % 2 ^ w) (x / 2 ^ j) ≡ turn w x k
turned w x j k e h =
    let rest : w - k ≡ j = omega arith in
    rw (rest, shifted) (or_shifted (x % 2 ^ j) k (x / 2 ^ j) (shr_lt k j (rw (add_comm k j, e) h)))
  where
    shifted : (x * 2 ^ k) % 2 ^ w ≡ x % 2 ^ j * 2 ^ k
    shifted = rw (← e, mod-pow-add, shl-shr, mul-mod_left) (omega arith)

-- by nothing
pub turn_none : (w x : ℕ) → x < 2 ^ w → turn w x 0 ≡ x
turn_none w x h =
    let all : w - 0 ≡ w = omega arith in
    rw (all, mul-one, mod-eq_of_lt h, div-eq_of_lt h) (omega arith)

-- by the whole width
pub turn_whole : (w x : ℕ) → turn w x w ≡ x
turn_whole w x =
    let none : w - w ≡ 0 = omega arith in
    rw (none, mul-mod_left) (omega arith)

-- what std's rotations work out is this. Where the amount is a whole number of turns, std joins the word with itself.
left_by : (w x up : ℕ) → up < w → x < 2 ^ w → bit_or ((x * 2 ^ up) % 2 ^ w) (x / 2 ^ ((w - up) % w)) ≡ turn w x up
left_by w x zero some h = whole ∙ sym (turn_none w x h)
  where
    whole : bit_or ((x * 2 ^ 0) % 2 ^ w) (x / 2 ^ ((w - 0) % w)) ≡ x
    whole = rw (sub-zero w, mod_self w, mul-one, div-one, mod-eq_of_lt h) (or_self x)
left_by w x (suc up) some h =
    let less : w - suc up < w = omega arith in
    rw (mod-eq_of_lt less) (turned w x (w - suc up) (suc up) (omega arith) h)

right_by : (w x down : ℕ) → down < w → x < 2 ^ w → bit_or (x / 2 ^ down) ((x * 2 ^ ((w - down) % w)) % 2 ^ w) ≡ turn w x (w - down)
right_by w x zero some h = whole ∙ rw (sub-zero w) (sym (turn_whole w x))
  where
    whole : bit_or (x / 2 ^ 0) ((x * 2 ^ ((w - 0) % w)) % 2 ^ w) ≡ x
    whole = rw (sub-zero w, mod_self w, mul-one, div-one, mod-eq_of_lt h) (or_self x)
right_by w x (suc down) some h =
    let less : w - suc down < w = omega arith in
    rw (mod-eq_of_lt less, or_comm) (turned w x (suc down) (w - suc down) (omega arith) h)

pub std_left : (w x k : ℕ) → 0 < w → x < 2 ^ w → bit_or ((x * 2 ^ (k % w)) % 2 ^ w) (x / 2 ^ ((w - k % w) % w)) ≡ rotate_left w x k
std_left w x k some h = left_by w x (k % w) (mod-lt k some) h

pub std_right : (w x k : ℕ) → 0 < w → x < 2 ^ w → bit_or (x / 2 ^ (k % w)) ((x * 2 ^ ((w - k % w) % w)) % 2 ^ w) ≡ rotate_right w x k
std_right w x k some h = right_by w x (k % w) (mod-lt k some) h

-- a rotation keeps the width
pub turn_lt : (w x j k : ℕ) → j + k ≡ w → x < 2 ^ w → turn w x k < 2 ^ w
turn_lt w x j k e h =
    rw (← turned w x j k e h) (or_lt w _ _ (mod-lt (x * 2 ^ k) (pow_pos w)) (lt_of_le_of_lt (div-le_self x (2 ^ j)) h))

pub rotate_right_lt : (w x k : ℕ) → 0 < w → x < 2 ^ w → rotate_right w x k < 2 ^ w
rotate_right_lt w x k some h =
    let part = mod-lt k some in
    turn_lt w x (k % w) (w - k % w) (omega arith) h
