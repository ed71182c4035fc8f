-- The laws of the gap between two signed numbers.
use Rattle.std.specs.Prelude.{◌≡◌, refl, Bool, true, false, ℕ, zero, suc, ◌+◌, ◌-◌, ◌^◌, ◌≤◌, ◌<◌, T, ltb, ℤ, pos, negsuc, ◌+ℤ◌, ◌-ℤ◌, ◌≤ℤ◌}
use Rattle.std.proofs.Common.{sym, ◌∙◌, ap, subst, true≢false, arith, le-ltb, ltb-true, ltb-false, leb→le, le→leb, SFits}
use Rattle.std.proofs.Math.IntN.{sub_ℕ, +ℤ_comm, +ℤ_idr, -ℤ-+ℤ_cancel}
use Rattle.std.specs.Int.Signed.{lt_z, le_z}
use Rattle.std.specs.Int.{Width, w32}
use Rattle.signed.specs.Signed.{or_zero, gap}

-- ---- the gap by the signs

-- how far max is above min, in naturals, sign by sign
abbrev apart : (min max : ℤ) → ℕ
apart (pos b) (pos a) = a - b
apart (negsuc b) (pos a) = a + suc b
apart (negsuc b) (negsuc a) = b - a
apart (pos b) (negsuc a) = 0

difference : (a b : ℕ) → or_zero (sub_ℕ a b) ≡ a - b
difference a b = go (ltb a b) refl
  where
    go : (t : Bool) → ltb a b ≡ t → or_zero (sub_ℕ a b) ≡ a - b
    go true e = let h = ltb-true a b e in rw e (omega arith)
    go false e = rw e

gap_apart : (min max : ℤ) → gap min max ≡ apart min max
unfolding gap
gap_apart (pos zero) (pos a) = omega arith
gap_apart (pos (suc b)) (pos a) = difference a (suc b)
gap_apart (negsuc b) (pos a) = refl
gap_apart (negsuc b) (negsuc a) = difference (suc b) (suc a) ∙ omega arith
gap_apart (pos zero) (negsuc a) = difference 0 (suc a) ∙ omega arith
gap_apart (pos (suc b)) (negsuc a) = refl

-- ---- it is max - min

pub gap_is : (min max : ℤ) → lt_z max min ≡ false → max -ℤ min ≡ pos (gap min max)
unfolding gap
gap_is (pos zero) (pos a) h = refl
gap_is (pos (suc b)) (pos a) h = rw h
gap_is (negsuc b) (pos a) h = refl
gap_is (negsuc b) (negsuc a) h =
    let k = ltb-false b a h in
    rw (le-ltb (suc b) (suc a) (omega arith))
gap_is (pos b) (negsuc a) h = absurd (true≢false h)

-- and min, that far up, is max
pub gap_top : (min max : ℤ) → lt_z max min ≡ false → min +ℤ pos (gap min max) ≡ max
gap_top min max h = +ℤ_comm min _ ∙ ap (λ (z : ℤ). z +ℤ min) (sym (gap_is min max h)) ∙ -ℤ-+ℤ_cancel max min

-- nothing where max is below min
pub gap_below : (min max : ℤ) → lt_z max min ≡ true → gap min max ≡ 0
gap_below min max h = gap_apart min max ∙ go min max h
  where
    go : (min max : ℤ) → lt_z max min ≡ true → apart min max ≡ 0
    go (pos b) (pos a) h = let k = ltb-true a b h in omega arith
    go (negsuc b) (pos a) h = absurd (true≢false (sym h))
    go (negsuc b) (negsuc a) h = let k = ltb-true b a h in omega arith
    go (pos b) (negsuc a) h = refl

-- ---- what is added within the gap stays between the two

sum_mono : (x : ℤ) (m n : ℕ) → m ≤ n → (x +ℤ pos m) ≤ℤ (x +ℤ pos n)
sum_mono (pos a) m n h = record { le = le→leb (a + m) (a + n) (omega arith) }
sum_mono (negsuc a) m n h = record { le = go (ltb m (suc a)) refl (ltb n (suc a)) refl }
  where
    go : (s : Bool) → ltb m (suc a) ≡ s → (t : Bool) → ltb n (suc a) ≡ t → T (le_z (sub_ℕ m (suc a)) (sub_ℕ n (suc a)))
    go true d true e = let j = ltb-true n (suc a) e in rw (d, e) (le→leb (suc a - suc n) (suc a - suc m) (omega arith))
    go true d false e = rw (d, e) tt
    go false d true e = let j = ltb-false m (suc a) d in let k = ltb-true n (suc a) e in absurd (omega arith)
    go false d false e = rw (d, e) (le→leb (m - suc a) (n - suc a) (omega arith))

-- it is at least min
pub gap_least : (min : ℤ) (v : ℕ) → min ≤ℤ (min +ℤ pos v)
gap_least min v = subst (λ (x : ℤ). x ≤ℤ (min +ℤ pos v)) (+ℤ_idr min) (sum_mono min 0 v (omega arith))

-- and at most max
pub gap_most : (min max : ℤ) (v : ℕ) → lt_z max min ≡ false → v ≤ gap min max → (min +ℤ pos v) ≤ℤ max
gap_most min max v h q = subst (λ (x : ℤ). (min +ℤ pos v) ≤ℤ x) (gap_top min max h) (sum_mono min v (gap min max) q)

-- ---- so it is a number of the type

between_fits : {w : Width} {x y z : ℤ} → x ≤ℤ y → y ≤ℤ z → SFits w x → SFits w z → SFits w y
between_fits {y = pos b} {z = pos c} p q f g = let k = g.sfits in let j = leb→le b c q.le in record { sfits = omega arith }
between_fits {y = pos b} {z = negsuc c} p q f g = absurd q.le
between_fits {x = negsuc a} {y = negsuc b} p q f g = let k = f.sfits in let j = leb→le b a p.le in record { sfits = omega arith }
between_fits {x = pos a} {y = negsuc b} p q f g = absurd p.le

pub gap_fits : {w : Width} {min max : ℤ} {v : ℕ} → SFits w min → SFits w max → v ≤ gap min max → SFits w (min +ℤ pos v)
gap_fits {w} {min} {max} {v} f g q = go (lt_z max min) refl
  where
    go : (t : Bool) → lt_z max min ≡ t → SFits w (min +ℤ pos v)
    go true e =
        let z : v ≡ 0 = omega (arith, gap_below min max e) in
        rw (z, +ℤ_idr min) f
    go false e = between_fits (gap_least min v) (gap_most min max v e q) f g

-- ---- between two numbers of 32 bits

pub gap_small : {min max : ℤ} → SFits w32 min → SFits w32 max → gap min max < 2 ^ 32
gap_small {min} {max} f g = rw (gap_apart min max) (go f g)
  where
    go : {min max : ℤ} → SFits w32 min → SFits w32 max → apart min max < 2 ^ 32
    go {min = pos b} {max = pos a} f g = let k = g.sfits in omega arith
    go {min = negsuc b} {max = pos a} f g = let j = f.sfits in let k = g.sfits in omega arith
    go {min = negsuc b} {max = negsuc a} f g = let j = f.sfits in omega arith
    go {min = pos b} {max = negsuc a} f g = omega arith

-- the largest gap is that of the least and the greatest of them, and of no others
pub gap_full : {min max : ℤ}
    → SFits w32 min → SFits w32 max → gap min max ≡ 2 ^ 32 - 1 → (min ≡ negsuc (2 ^ 31 - 1)) × (max ≡ pos (2 ^ 31 - 1))
gap_full {min} {max} f g e = go f g (sym (gap_apart min max) ∙ e)
  where
    go : {min max : ℤ} → SFits w32 min → SFits w32 max → apart min max ≡ 2 ^ 32 - 1 → (min ≡ negsuc (2 ^ 31 - 1)) × (max ≡ pos (2 ^ 31 - 1))
    go {min = pos b} {max = pos a} f g e = let k = g.sfits in absurd (omega arith)
    go {min = negsuc b} {max = pos a} f g e =
        let j = f.sfits in
        let k = g.sfits in
        let p : b ≡ 2 ^ 31 - 1 = omega arith in
        let q : a ≡ 2 ^ 31 - 1 = omega arith in
        (ap negsuc p, ap pos q)
    go {min = negsuc b} {max = negsuc a} f g e = let j = f.sfits in absurd (omega arith)
    go {min = pos b} {max = negsuc a} f g e = absurd (omega arith)
