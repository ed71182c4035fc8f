-- The laws of words read as signed, once over the width.
use Rattle.std.specs.Prelude.{◌≡◌, refl, Bool, true, false, cond, ℕ, suc, ◌-◌, ◌^◌, ◌<◌, ltb, ℤ, pos, negsuc, ◌+ℤ◌}
use Rattle.std.proofs.Common.{mod-lt, mod-eq_of_lt, arith, lt-ltb, ltb-true, ltb-false, pow_pos}
use Rattle.std.proofs.Math.Nat.{mod-eq-sub-mod, add-mod_right}
use Rattle.std.proofs.Math.IntN.{sub_ℕ}
use Rattle.std.specs.Int.{Width}
use mir.Val.{bits, hbits, SFits, of_z, to_z, sel}
use mir.ValLaws.{bits-suc, half_full, of_z_fits, to_z-Fits, to_z-of_z, of_z-to_z}
use Rattle.signed.specs.Signed.{signed_of, word_of, wrapped_sum}

-- ---- an integer modulo 2 ^ k: a word, the same after a full turn, and a word itself

pub word_small : (k : ℕ) (z : ℤ) → word_of k z < 2 ^ k
word_small k (pos n) = mod-lt n (pow_pos k)
word_small k (negsuc n) = omega (arith, pow_pos k)

pub word_around : (k : ℕ) (z : ℤ) → word_of k (z +ℤ pos (2 ^ k)) ≡ word_of k z
word_around k (pos n) = add-mod_right n (2 ^ k)
word_around k (negsuc n) = go (ltb (2 ^ k) (suc n)) refl
  where
    go : (t : Bool) → ltb (2 ^ k) (suc n) ≡ t → word_of k (sub_ℕ (2 ^ k) (suc n)) ≡ word_of k (negsuc n)
    go true e =
        let h = ltb-true (2 ^ k) (suc n) e in
        let d : suc n - suc (2 ^ k) ≡ n - 2 ^ k = omega arith in
        rw (e, d, ← mod-eq-sub-mod {n = n} {m = 2 ^ k} (omega arith))
    go false e =
        let h = ltb-false (2 ^ k) (suc n) e in
        rw (e, mod-eq_of_lt {n = n} {m = 2 ^ k} (omega arith), mod-eq_of_lt {n = 2 ^ k - suc n} {m = 2 ^ k} (omega arith))

-- ---- a word read as signed

-- it is what the machine reads
pub signed_is : (w : Width) (n : ℕ) → n < 2 ^ bits w → to_z w n ≡ signed_of (bits w) n
unfolding signed_of
signed_is w n h =
    let half : bits w - 1 ≡ hbits w = omega (arith, bits-suc w) in
    rw (half, lt-ltb n (2 ^ bits w) h) (same (ltb n (2 ^ hbits w)) _ _)
  where
    same : (t : Bool) (x y : ℤ) → sel t x y ≡ cond t x y
    same true x y = refl
    same false x y = refl

-- a number of the type is held by the word that it is modulo 2 ^ k
word_is : (w : Width) (z : ℤ) → SFits w z → word_of (bits w) z ≡ of_z w z
word_is w (pos n) f = mod-eq_of_lt (half_full w f.sfits)
word_is w (negsuc n) f = rw (mod-eq_of_lt (half_full w f.sfits))

-- so words and numbers of the type correspond one to one
pub signed_fits : (w : Width) (n : ℕ) → n < 2 ^ bits w → SFits w (signed_of (bits w) n)
signed_fits w n h = rw (← signed_is w n h) (to_z-Fits w n (record { fits = h }))

-- a number of the type, as a word and read back, is itself
pub read_back : (w : Width) (z : ℤ) → SFits w z → signed_of (bits w) (word_of (bits w) z) ≡ z
read_back w z f = rw (word_is w z f, ← signed_is w (of_z w z) (of_z_fits w z f).fits) (to_z-of_z w z f)

-- and a word, read as signed and as a word again, is itself
pub word_back : (w : Width) (n : ℕ) → n < 2 ^ bits w → word_of (bits w) (signed_of (bits w) n) ≡ n
word_back w n h =
    rw (word_is w _ (signed_fits w n h), ← signed_is w n h) (of_z-to_z w n (record { fits = h }))

-- ---- a sum: exact where the sum of the integers is a number of the type

pub sum_exact : (w : Width) (x : ℤ) (n : ℕ) → SFits w (x +ℤ pos n) → wrapped_sum (bits w) x n ≡ x +ℤ pos n
unfolding wrapped_sum
sum_exact w x n f = read_back w (x +ℤ pos n) f
