-- The laws of little-endian numbers.
use Rattle.std.specs.Prelude.{◌≡◌, ℕ, zero, suc, ◌+◌, ◌*◌, ◌^◌, ◌<◌, ◌≤◌, List, slice_index}
use Rattle.std.specs.Int.{w32, w64, from_le_bytes}
use Rattle.std.proofs.Common.{ap, ◌∙◌, add_assoc, add-suc, add-zero, mul-le-mul_right, arith, pow-add}
use Rattle.wrapping.specs.Bytes.{AreBytes, little}

-- the number of n + m bytes: the first n below the other m
pub little_joined : (n m : ℕ) (s : List ℕ) (i : ℕ) → little (n + m) s i ≡ little n s i + little m s (i + n) * 2 ^ (8 * n)
unfolding little
little_joined n zero s i = rw add-zero (omega arith)
little_joined n (suc m) s i =
    let place : i + n + m ≡ i + (n + m) = add_assoc i n m in
    let power : 2 ^ (8 * (n + m)) ≡ 2 ^ (8 * m) * 2 ^ (8 * n) = ap (λ (k : ℕ). 2 ^ k) (omega arith) ∙ pow-add 2 (8 * m) (8 * n) in
    rw (add-suc, little_joined n m s i, place, power) (omega arith)

-- it has no more bits than n bytes have
pub little_lt : (n : ℕ) (s : List ℕ) (i : ℕ) → AreBytes s → little n s i < 2 ^ (8 * n)
unfolding little
little_lt zero s i h = omega arith
little_lt (suc n) s i h = rw power (room (2 ^ (8 * n)) (little_lt n s i h) (h (i + n)))
  where
    power : 2 ^ (8 * suc n) ≡ 2 ^ (8 * n) * 2 ^ 8
    power = ap (λ (k : ℕ). 2 ^ k) (omega arith) ∙ pow-add 2 (8 * n) 8

    room : {a b : ℕ} (P : ℕ) → a < P → b < 2 ^ 8 → a + b * P < P * 2 ^ 8
    room {a} {b} P l u = let most : suc b * P ≤ 2 ^ 8 * P = mul-le-mul_right P u in omega arith

-- the word of four bytes, and of eight, is the number of those that they are in the list
pub four_bytes : (b s : List ℕ) (i : ℕ) → ((k : ℕ) → k < 4 → slice_index b k ≡ slice_index s (i + k)) → from_le_bytes w32 b ≡ little 4 s i
unfolding little
four_bytes b s i h =
    rw (h 0 (omega arith), h 1 (omega arith), h 2 (omega arith), h 3 (omega arith)) (omega arith)

pub eight_bytes : (b s : List ℕ) (i : ℕ) → ((k : ℕ) → k < 8 → slice_index b k ≡ slice_index s (i + k)) → from_le_bytes w64 b ≡ little 8 s i
unfolding little
eight_bytes b s i h =
    rw (h 0 (omega arith), h 1 (omega arith), h 2 (omega arith), h 3 (omega arith)) (
    rw (h 4 (omega arith), h 5 (omega arith), h 6 (omega arith), h 7 (omega arith)) (omega arith))
