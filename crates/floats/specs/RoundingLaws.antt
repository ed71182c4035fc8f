-- The fraction n / c as the kit rounds it, by the digits that it keeps (`kept`) and those that it drops (`drop`), is rounded to nearest,
-- ties to even (`rounded`).
use Rattle.std.specs.Prelude.{◌⊎◌, ◌≡◌}
use Rattle.std.proofs.Common.{inl, inr, ⊎_elim, sym, ap, ◌∙◌, le_trans, le_of_eq, le_of_lt, lt_of_lt_of_le, lt_of_le_of_lt, lt_of_not-le}
use Rattle.std.proofs.Common.{lt_irrefl, mul_comm, mul_assoc, mul-pos, mul-lt-mul_of_pos_right, le-div_iff_mul-le, eq-zero-or-pos, arith}
use Rattle.std.proofs.Common.{pow-add, pow_pos, pow_mono}
use Prim.Native.Nat.{ℕ, ◌+◌, ◌-◌, ◌*◌, ◌/◌, ◌%◌, ◌^◌, ◌≤◌, ◌<◌, zero-le, compare}
use Rattle.std.proofs.Math.Nat.{div-div-eq-div-mul}
use Rattle.std.proofs.Math.Decide.{dec_le}
use Rattle.std.specs.Float.Ieee.{size}
use Rattle.std.specs.Float.Ieee.Fits.{kept-lt, nearest-le}
use Rattle.std.specs.Float.Ieee.Digits.{size_reaches, back}
use Rattle.std.specs.Float.Ieee.Nearest.{nearest-ge}
use Rattle.std.specs.Float.Ieee.Order.{drop, kept}
use Rattle.floats.specs.Rounding.{distance, Nearest}
use Rattle.floats.specs.ClosestLaws.{closest_near, closest_even}

module _ (p n c : ℕ) (P : 0 < p) (C : 0 < c) where
  -- how many digits more than p the whole part has: the spacing is 2 ^ k
  abbrev k : ℕ
  k = drop p n c

  -- what is kept
  abbrev q : ℕ
  q = kept p n c

  -- the spacing, c times
  abbrev u : ℕ
  u = c * 2 ^ k

  -- it is above 0
  U : 0 < u
  U = mul-pos C (pow_pos k)

  -- in multiples of u
  spaced : (t : ℕ) → t * 2 ^ k * c ≡ t * u
  spaced t = mul_assoc t (2 ^ k) c ∙ ap (λ (z : ℕ). t * z) (mul_comm (2 ^ k) c)

  -- the least number of p digits at this spacing is not above n / c
  least : 0 < k → 2 ^ (p - 1) * u ≤ n
  least K =
      let reaches = size_reaches (n / c) (p - 1 + k) (enough (size (n / c)) p P K) in
      let whole : 2 ^ (p - 1) * 2 ^ k ≤ n / c = le_trans (le_of_eq (sym (pow-add 2 (p - 1) k))) reaches in
      le_trans (le_of_eq (sym (spaced (2 ^ (p - 1))))) ((le-div_iff_mul-le C).0 whole)
    where
      enough : (z p : ℕ) → 0 < p → 0 < z - p → p - 1 + (z - p) < z
      enough z p P h = omega arith

  -- a number of p digits at a closer spacing lies below that
  closer : (m j : ℕ) → m < 2 ^ p → j < k → m * 2 ^ j * c < 2 ^ (p - 1) * u
  closer m j M J =
      let fewer : m * 2 ^ j < 2 ^ p * 2 ^ j = mul-lt-mul_of_pos_right M (pow_pos j) in
      let powers : 2 ^ (p + j) ≤ 2 ^ (p - 1 + k) = pow_mono (shift p j k P J) in
      let most : 2 ^ p * 2 ^ j ≤ 2 ^ (p - 1) * 2 ^ k = rw (sym (pow-add 2 p j), sym (pow-add 2 (p - 1) k)) powers in
      lt_of_lt_of_le (mul-lt-mul_of_pos_right (lt_of_lt_of_le fewer most) C) (le_of_eq (spaced (2 ^ (p - 1))))
    where
      shift : (p j k : ℕ) → 0 < p → j < k → p + j ≤ p - 1 + k
      shift p j k P h = omega arith

  -- and at this spacing or a wider one it is a multiple of u
  wider : (m j : ℕ) → k ≤ j → m * 2 ^ j ≡ m * 2 ^ (j - k) * 2 ^ k
  wider m j h =
      ap (λ (z : ℕ). m * 2 ^ z) (sym (back j k h))
      ∙ ap (λ (z : ℕ). m * z) (pow-add 2 (j - k) k)
      ∙ sym (mul_assoc m (2 ^ (j - k)) (2 ^ k))

  -- so none of them is nearer, and one that is as near at a tie alone
  pub rounded : Nearest p n c q k
  rounded = record { digits = few; full = all; none_nearer = nearer; ties_to_even = ties }
    where
      few : q ≤ 2 ^ p
      few = le_trans (nearest-le (n / u) (compare (n % u * 2) u)) (rw (sym (div-div-eq-div-mul n c (2 ^ k))) (kept-lt p (n / c)))

      all : (k ≡ 0) ⊎ (2 ^ (p - 1) ≤ q)
      all =
          ⊎_elim inl (λ K. inr (le_trans ((le-div_iff_mul-le U).1 (least K)) (nearest-ge (n / u) (compare (n % u * 2) u))))
          (eq-zero-or-pos k)

      below : (x y z : ℕ) → z ≤ distance y n → x < y → y ≤ n → z < distance x n
      below x y z h l m = omega arith

      strictly : (m j : ℕ) → m < 2 ^ p → j < k → distance (q * 2 ^ k * c) n < distance (m * 2 ^ j * c) n
      strictly m j M J =
          below (m * 2 ^ j * c) (2 ^ (p - 1) * u) (distance (q * 2 ^ k * c) n)
          (rw (spaced q) (closest_near n u (2 ^ (p - 1)) U)) (closer m j M J) (least (lt_of_le_of_lt zero-le J))

      multiple : (m j : ℕ) → k ≤ j → m * 2 ^ j * c ≡ m * 2 ^ (j - k) * u
      multiple m j h = ap (λ (z : ℕ). z * c) (wider m j h) ∙ spaced (m * 2 ^ (j - k))

      nearer : (m j : ℕ) → m < 2 ^ p → distance (q * 2 ^ k * c) n ≤ distance (m * 2 ^ j * c) n
      nearer m j M =
          elim (dec_le k j) [
            | yes h ↦ rw (spaced q, multiple m j h) (closest_near n u (m * 2 ^ (j - k)) U)
            | no h ↦ le_of_lt (strictly m j M (lt_of_not-le h))
          ]

      ties : (m j : ℕ) → m < 2 ^ p → distance (m * 2 ^ j * c) n ≡ distance (q * 2 ^ k * c) n → (m * 2 ^ j ≡ q * 2 ^ k) ⊎ (q % 2 ≡ 0)
      ties m j M e =
          elim (dec_le k j) [
            | yes h ↦
                ⊎_elim (λ s. inl (wider m j h ∙ ap (λ (z : ℕ). z * 2 ^ k) s)) inr
                (closest_even n u (m * 2 ^ (j - k)) U (rw (spaced q, multiple m j h) at e))
            | no h ↦ absurd (lt_irrefl _ (lt_of_lt_of_le (strictly m j M (lt_of_not-le h)) (le_of_eq e)))
          ]
