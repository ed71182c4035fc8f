-- What a caller cites that has signed numbers of 32 bits: its facts speak of x as `read x`, what the machine reads back of x's bits,
-- and these laws tell the same of x itself. `f` and `g` are `c.ranges.min` and `c.ranges.max`.
use Rattle.std.specs.Prelude.{◌≡◌, Bool, ℕ, ◌^◌, ◌<◌, ℤ}
use Rattle.std.specs.Int.Signed.{mag, lt_z}
use Rattle.std.specs.Int.{Width, w32}
use mir.Val.{hbits, SFits, of_z, to_z}
use Rattle.std.proofs.lemmas.Int.{to_z-of_z}
use Rattle.signed.specs.Signed.{gap}

-- what the machine reads back of the 32 bits of z
abbrev pub read : ℤ → ℤ
read z = to_z w32 (of_z w32 z)

-- a parameter, by `c.ranges`, and a call's result, by its `.type_inv`
pub arg_read : {x : ℤ} → SFits w32 x → read x ≡ x
arg_read {x} f = to_z-of_z w32 x f

pub result_read : (w : Width) (r : ℤ) → mag r < 2 ^ hbits w → to_z w (of_z w r) ≡ r
result_read w r small = to_z-of_z w r (record { sfits = small })

module _ {min max : ℤ} (f : SFits w32 min) (g : SFits w32 max) where
  -- the test `max < min`
  pub test_read : {t : Bool} → lt_z (read max) (read min) ≡ t → lt_z max min ≡ t
  test_read h = rw (arg_read g, arg_read f) at h

  -- the answer of `span_of`
  pub span_read : {s : ℕ} → s ≡ gap (read min) (read max) → s ≡ gap min max
  span_read h = rw (arg_read g, arg_read f) at h
