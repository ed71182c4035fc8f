-- "Of all 2^32 words, exactly floor(2^32 / r) pass that test with each quotient below r" (the order, demand 3), for every r.
use Rattle.std.specs.Prelude.{◌≡◌, refl, Bool, true, false, ◌&&◌, cond, ℕ, zero, suc, ◌+◌, ◌-◌, ◌*◌, ◌/◌, ◌%◌, ◌^◌, ◌≤◌, ◌<◌, leb, ltb, eqb}
use Rattle.std.proofs.Common.{sym, ◌∙◌, ap, one-mul, mul_comm, mul-le-mul_right, div-add-mod', div-lt_iff_lt-mul, lit<}
use Rattle.std.proofs.Math.Path.{fun_ext}
use Rattle.std.proofs.Math.Bool.{and-eq-true_iff}
use native.Mathlib.Omega.{arith}
use Rattle.std.proofs.Math.Nat.{add-mul, lt-div-mul-add, div-mul-le_self, div-eq_of_lt-le, mod-lt}
use borrow.Author.Tests.{leb-true, leb-false, ltb-true, ltb-false, eqb-true, le-leb, lt-ltb, eq-eqb}
use Rattle.words.specs.Draw.{good, quotient}
use Rattle.words.specs.Count.{count, count_none, count_next}

-- two tests that pass at the same places
same_test : (a b : Bool) → (a ≡ true → b ≡ true) → (b ≡ true → a ≡ true) → a ≡ b
same_test true b f g = sym (f refl)
same_test false true f g = g refl
same_test false false f g = refl

-- one more of something
one_more : (n m : ℕ) → (n + 1) * m ≡ n * m + m
one_more n m = add-mul n 1 m ∙ ap (λ (x : ℕ). n * m + x) (one-mul m)

mul_lt_cancel : (a b c : ℕ) → a * c < b * c → a < b
mul_lt_cancel a b c h = go (leb b a) refl
  where
    go : (x : Bool) → leb b a ≡ x → a < b
    go true p = absurd (let u = mul-le-mul_right c (leb-true b a p) in omega arith)
    go false p = leb-false b a p

-- the numbers from a up to, and without, e
abbrev inside : ℕ → ℕ → ℕ → Bool
inside a e w = leb a w && ltb w e

count_inside : (a e n : ℕ) → a ≤ e → count (inside a e) n ≡ (n - a) - (n - e)
count_inside a e zero h = omega (arith, count_none (inside a e))
count_inside a e (suc n) h = count_next (inside a e) n ∙ go (leb a n) refl (ltb n e) refl (count_inside a e n h)
  where
    go : (x : Bool) → leb a n ≡ x → (y : Bool) → ltb n e ≡ y → count (inside a e) n ≡ (n - a) - (n - e)
        → cond (leb a n && ltb n e) 1 0 + count (inside a e) n ≡ (suc n - a) - (suc n - e)
    go true p true q i = rw (p, q) (omega (arith, leb-true a n p, ltb-true n e q))
    go true p false q i = rw (p, q) (omega (arith, leb-true a n p, ltb-false n e q))
    go false p y q i = rw p (omega (arith, leb-false a n p))

-- N stands for 2^32. The words that pass with quotient q are those from `lowest` on, N / r of them.
module _ (N r q : ℕ) (N-pos : 0 < N) (pos : 0 < r) where
  shares : ℕ → Bool
  shares w = leb (N % r) ((w * r) % N) && eqb ((w * r) / N) q

  lowest : ℕ
  lowest = (q * N + N % r + (r - 1)) / r

  whole : N / r * r + N % r ≡ N
  whole = div-add-mod' N r

  lowest_from : q * N + N % r ≤ lowest * r
  unfolding lowest
  lowest_from = omega (arith, lt-div-mul-add {a = q * N + N % r + (r - 1)} pos)

  lowest_to : lowest * r ≤ q * N + N % r + (r - 1)
  unfolding lowest
  lowest_to = div-mul-le_self (q * N + N % r + (r - 1)) r

  -- a word does so exactly if its product lies in q's part of the multiples of N, above the remainder
  shares_between : (w : ℕ) → shares w ≡ true → (q * N + N % r ≤ w * r) × (w * r < q * N + N)
  unfolding shares
  shares_between w h =
      let both = (and-eq-true_iff (leb (N % r) ((w * r) % N)) (eqb ((w * r) / N) q)).0 h in
      let l = leb-true (N % r) ((w * r) % N) both.0 in
      let e = eqb-true ((w * r) / N) q both.1 in
      let x : q * N + (w * r) % N ≡ w * r = rw e at (div-add-mod' (w * r) N) in
      omega (arith, mod-lt (w * r) N-pos)

  between_shares : (w : ℕ) → q * N + N % r ≤ w * r → w * r < q * N + N → shares w ≡ true
  unfolding shares
  between_shares w a b =
      let n = one_more q N in
      let e : (w * r) / N ≡ q = div-eq_of_lt-le N (omega arith) (omega arith) in
      let x : q * N + (w * r) % N ≡ w * r = rw e at (div-add-mod' (w * r) N) in
      rw (le-leb (N % r) ((w * r) % N) (omega arith)) (eq-eqb ((w * r) / N) q e)

  -- and that is so exactly of the N / r words from `lowest` on
  between_inside : (w : ℕ) → q * N + N % r ≤ w * r → w * r < q * N + N → (lowest ≤ w) × (w < lowest + N / r)
  unfolding lowest
  between_inside w a b =
      let u = one_more w r in
      let v : (lowest + N / r) * r ≡ lowest * r + N / r * r = add-mul lowest (N / r) r in
      let d : lowest < w + 1 = (div-lt_iff_lt-mul pos).1 (omega arith) in
      (omega arith, mul_lt_cancel w (lowest + N / r) r (omega (arith, lowest_from, whole)))

  inside_between : (w : ℕ) → lowest ≤ w → w < lowest + N / r → (q * N + N % r ≤ w * r) × (w * r < q * N + N)
  inside_between w a b =
      let u = one_more w r in
      let v : (lowest + N / r) * r ≡ lowest * r + N / r * r = add-mul lowest (N / r) r in
      let c : lowest * r ≤ w * r = mul-le-mul_right r a in
      let d : (w + 1) * r ≤ (lowest + N / r) * r = mul-le-mul_right r (omega arith) in
      (omega (arith, lowest_from), omega (arith, lowest_to, whole))

  shares_inside : shares ≡ inside lowest (lowest + N / r)
  shares_inside = fun_ext (λ w. same_test (shares w) (inside lowest (lowest + N / r) w) (there w) (back w))
    where
      there : (w : ℕ) → shares w ≡ true → inside lowest (lowest + N / r) w ≡ true
      there w h =
          let b = shares_between w h in
          let i = between_inside w b.0 b.1 in
          rw (le-leb lowest w i.0) (lt-ltb w (lowest + N / r) i.1)

      back : (w : ℕ) → inside lowest (lowest + N / r) w ≡ true → shares w ≡ true
      back w h =
          let both = (and-eq-true_iff (leb lowest w) (ltb w (lowest + N / r))).0 h in
          let i = inside_between w (leb-true lowest w both.0) (ltb-true w (lowest + N / r) both.1) in
          between_shares w i.0 i.1

  -- all of them are below N
  shares_fit : q < r → lowest + N / r ≤ N
  shares_fit h =
      let v : (lowest + N / r) * r ≡ lowest * r + N / r * r = add-mul lowest (N / r) r in
      let n = one_more q N in
      let m = one_more N r in
      let k : (q + 1) * N ≤ r * N = mul-le-mul_right N (omega arith) in
      let z : lowest + N / r < N + 1 = mul_lt_cancel (lowest + N / r) (N + 1) r (omega (arith, lowest_to, whole, mul_comm N r)) in
      omega arith

  count_shares : q < r → count shares N ≡ N / r
  count_shares h = rw shares_inside (count_inside lowest (lowest + N / r) N (omega arith) ∙ omega (arith, shares_fit h))

-- The law: of the 2^32 words, floor(2^32 / r) are good for r and draw q, for each q below r.
pub equal_shares : (r q : ℕ) → q < r → count (λ w. good r w && eqb (quotient r w) q) (2 ^ 32) ≡ 2 ^ 32 / r
unfolding shares
equal_shares r q h = count_shares (2 ^ 32) r q (lit< tt) (omega arith) h
