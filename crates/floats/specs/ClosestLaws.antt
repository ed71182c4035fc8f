-- The whole number closest to a / b, as the kit picks it, is the nearest, and at a tie the even one: w is the whole part, r the rest, and o
-- says how twice the rest compares with b.
use Rattle.std.specs.Prelude.{not, ◌⊎◌, ◌≡◌, T, eqb}
use Rattle.std.proofs.Common.{inl, inr, ⊎_elim, sym, subst, le_trans, le_of_eq, lt_of_not-le, mul-le-mul_right, div-add-mod', mod-lt, arith}
use Rattle.std.proofs.Common.{leb→le, eqb→eq}
use Prim.Native.Nat.{ℕ, suc, ◌+◌, ◌*◌, ◌/◌, ◌%◌, ◌≤◌, ◌<◌, compare, Ordering}
use Rattle.std.proofs.Math.Nat.{eq_of_mul-eq-mul_right}
use Rattle.std.proofs.Math.Decide.{dec_le}
use Rattle.std.proofs.Math.Dec.{is_le, compare_is_eq, nleb→lt, eqb_refl}
use Rattle.std.proofs.Math.Arith.{lt_of_le-ne}
use Rattle.std.specs.Float.Ieee.{nearest}
use Rattle.std.specs.Float.Ieee.Nearest.{closest}
use Rattle.floats.specs.Rounding.{distance}
use Rattle.floats.specs.DyadicLaws.{parity}

-- what `compare` says
abbrev Compared : Ordering → ℕ → ℕ → Type 0
Compared Ordering.lt a b = a < b
Compared Ordering.eq a b = a ≡ b
Compared Ordering.gt a b = b < a

compared : (a b : ℕ) → Compared (compare a b) a b
compared a b = go (compare a b) (leb→le a b) (nleb→lt a b) (eqb→eq a b) (λ (e : a ≡ b). subst (λ (x : ℕ). T (eqb a x)) e (eqb_refl a))
  where
    go : (o : Ordering) → (T (is_le o) → a ≤ b) → (T (not (is_le o)) → b < a)
        → (T (compare_is_eq o) → a ≡ b) → (a ≡ b → T (compare_is_eq o)) → Compared o a b
    go Ordering.lt h k e n = lt_of_le-ne (h tt) n
    go Ordering.eq h k e n = e tt
    go Ordering.gt h k e n = k tt

-- a multiple t b of b is at w b or below it, or a whole b above
beside : (w t b : ℕ) → (t * b ≤ w * b) ⊎ (w * b + b ≤ t * b)
beside w t b = ⊎_elim (λ h. inl (mul-le-mul_right b h)) (λ h. inr (le_trans (le_of_eq (omega arith)) (mul-le-mul_right b h))) (either t w)
  where
    either : (t w : ℕ) → (t ≤ w) ⊎ (suc w ≤ t)
    either t w = elim (dec_le t w) [ yes h ↦ inl h | no h ↦ inr (lt_of_not-le h) ]

-- at a tie w or the next number, by its last digit, and both are as far
halfway : (x w r b : ℕ) → (x ≡ 0) ⊎ (x ≡ 1) → r * 2 ≡ b → distance ((w + x) * b) (w * b + r) ≡ r
halfway x w r b (inl e) h = rw e (omega arith)
halfway x w r b (inr e) h = rw e (omega arith)

-- and nothing is less far
far : (w r b t : ℕ) → r * 2 ≡ b → r ≤ distance (t * b) (w * b + r)
far w r b t h = ⊎_elim (λ k. omega arith) (λ k. omega arith) (beside w t b)

-- that number is even
even_sum : (w : ℕ) → (w + w % 2) % 2 ≡ 0
even_sum w = omega arith

-- so none is nearer to w b + r than the nearest,
near : (o : Ordering) (w r b t : ℕ) → r < b → Compared o (r * 2) b → distance (nearest w o * b) (w * b + r) ≤ distance (t * b) (w * b + r)
near Ordering.lt w r b t R h = ⊎_elim (λ k. omega arith) (λ k. omega arith) (beside w t b)
near Ordering.eq w r b t R h = le_trans (le_of_eq (halfway (w % 2) w r b (parity w) h)) (far w r b t h)
near Ordering.gt w r b t R h = ⊎_elim (λ k. omega arith) (λ k. omega arith) (beside w t b)

-- and another as near only at a tie, where the nearest is even
even : (o : Ordering) (w r b t : ℕ) → r < b → Compared o (r * 2) b → distance (t * b) (w * b + r) ≡ distance (nearest w o * b) (w * b + r)
    → (t * b ≡ nearest w o * b) ⊎ (nearest w o % 2 ≡ 0)
even Ordering.lt w r b t R h e = inl (⊎_elim (λ k. omega arith) (λ k. absurd (omega arith)) (beside w t b))
even Ordering.eq w r b t R h e = inr (even_sum w)
even Ordering.gt w r b t R h e = inl (⊎_elim (λ k. absurd (omega arith)) (λ k. omega arith) (beside w t b))

module _ (a b t : ℕ) (B : 0 < b) where
  -- a by its whole part and its rest
  parts : a / b * b + a % b ≡ a
  parts = div-add-mod' a b

  -- no multiple of b is nearer to a than the closest,
  pub closest_near : distance (closest a b * b) a ≤ distance (t * b) a
  closest_near =
      subst (λ (x : ℕ). distance (closest a b * b) x ≤ distance (t * b) x) parts
      (near (compare (a % b * 2) b) (a / b) (a % b) b t (mod-lt a B) (compared (a % b * 2) b))

  -- and where another is as near, the closest is an even one
  pub closest_even : distance (t * b) a ≡ distance (closest a b * b) a → (t ≡ closest a b) ⊎ (closest a b % 2 ≡ 0)
  closest_even e =
      ⊎_elim (λ s. inl (eq_of_mul-eq-mul_right b B t (closest a b) s)) inr
      (even (compare (a % b * 2) b) (a / b) (a % b) b t (mod-lt a B) (compared (a % b * 2) b)
      (subst (λ (x : ℕ). distance (t * b) x ≡ distance (closest a b * b) x) (sym parts) e))
