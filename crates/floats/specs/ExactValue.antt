-- A float's value fixes the float: two floats of one format with the same sign and size are one (`one_such`). `HasValue x s a c`, of the
-- kit, says that x is finite, has the sign s, and is a / c in size; the size of `fin s m e` is the fraction m * up e / down e.
use Rattle.std.specs.Prelude.{◌≡◌, ℕ, ◌+◌, ◌-◌, ◌*◌, ◌/◌, ◌^◌, ◌<◌, Bool, false, cond, ℤ, T, Float}
use Rattle.std.proofs.Common.{sym, ap, ◌∙◌, mul_right_comm, pow_pos}
use Rattle.std.proofs.Math.Nat.{eq_of_mul-eq-mul_right}
use Rattle.std.specs.Float.{nan, inf, fin, Format}
use Rattle.std.specs.Float.Ieee.{prec, low, up, down, size, hid, top, fits, to_bits, of_bits}
use Rattle.std.specs.Float.Ieee.Bits.{of_bits-to_bits}
use Rattle.std.specs.Float.Ieee.Exact.{HasValue}
use Rattle.std.specs.Float.Ieee.Fits.{down_pos}
use Rattle.std.specs.Float.Ieee.Nearest.{div_same}

-- x is a value of the format f, has no minus sign, and is n / 2 ^ k with nothing lost
pub record Exactly (f : Format) (x : Float) (n k : ℕ) : Type 0 where
  pub held : T (fits f x)
  pub value : HasValue x false n (2 ^ k)

-- two fractions x / p and y / q that are both a / c: x q c = x c q = a p q = a q p = y c p = y p c
cross : (x y p q a c : ℕ) → 0 < c → x * c ≡ a * p → y * c ≡ a * q → x * q ≡ y * p
cross x y p q a c C h k =
    eq_of_mul-eq-mul_right c C (x * q) (y * p)
    (mul_right_comm x q c
    ∙ ap (λ (z : ℕ). z * q) h
    ∙ mul_right_comm a p q
    ∙ ap (λ (z : ℕ). z * p) (sym k)
    ∙ mul_right_comm y c p)

-- a value, from one fraction to another of the same size
pub rescale : (x : Float) (s : Bool) (a c b d : ℕ) → 0 < c → b * c ≡ a * d → HasValue x s a c → HasValue x s b d
rescale nan s a c b d C h v = v
rescale (inf t) s a c b d C h v = v
rescale (fin t m e) s a c b d C h v = (v.0, cross (m * up e) b (down e) d a c C v.1 h)

-- a bit pattern turns on the sign and on the size in units of the format's smallest value, 2 ^ -low
bits_same : (f : Format) (s : Bool) (m : ℕ) (e : ℤ) (n : ℕ) (d : ℤ) → m * up e * down d ≡ n * up d * down e
    → to_bits f (fin s m e) ≡ to_bits f (fin s n d)
unfolding to_bits
bits_same f s m e n d h = ap pattern (div_same (m * up e * l) (down e) (n * up d * l) (down d) (down_pos e) (down_pos d) scaled)
  where
    l : ℕ
    l = 2 ^ low f

    scaled : m * up e * l * down d ≡ n * up d * l * down e
    scaled = mul_right_comm (m * up e) l (down d) ∙ ap (λ (z : ℕ). z * l) h ∙ mul_right_comm (n * up d) (down e) l

    pattern : ℕ → ℕ
    pattern z = cond s (top f) 0 + (size z - prec f) * hid f + z / 2 ^ (size z - prec f)

-- so the values of a format that have one sign and one size have one bit pattern, and are one
value_unique : (f : Format) (x y : Float) (s : Bool) (a c : ℕ) → 0 < c → T (fits f x) → T (fits f y) → HasValue x s a c → HasValue y s a c
    → x ≡ y
value_unique f nan y s a c C p q v w = absurd v
value_unique f (inf t) y s a c C p q v w = absurd v
value_unique f (fin t m e) nan s a c C p q v w = absurd w
value_unique f (fin t m e) (inf u) s a c C p q v w = absurd w
value_unique f (fin t m e) (fin u n d) s a c C p q v w =
    let size_same = cross (m * up e) (n * up d) (down e) (down d) a c C v.1 w.1 in
    let sign_same = ap (λ (b : Bool). to_bits f (fin b n d)) (v.0 ∙ sym w.0) in
    sym (of_bits-to_bits f (fin t m e) p) ∙ ap (of_bits f) (bits_same f t m e n d size_same ∙ sign_same) ∙ of_bits-to_bits f (fin u n d) q

-- at most one float is n / 2 ^ k with nothing lost
pub one_such : {f : Format} {x y : Float} {n k : ℕ} → Exactly f x n k → Exactly f y n k → x ≡ y
one_such {f} {x} {y} {n} {k} p q = value_unique f x y false n (2 ^ k) (pow_pos k) p.held q.held p.value q.value
