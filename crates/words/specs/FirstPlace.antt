-- The first place that passes a test, for any test: what it means in plain numbers, and that `first` finds it.
use Rattle.std.specs.Prelude.{◌≡◌, Bool, leb}
use Rattle.std.proofs.Math.Path.{refl}
use Rattle.std.proofs.Common.{sym, ◌∙◌, ap, true≢false, arith, leb-true, leb-false}
use Rattle.std.proofs.Math.Bool.{true, false}
use Prim.Native.Nat.{ℕ, zero, suc, ◌+◌, ◌≤◌, ◌<◌}
use Rattle.words.specs.Draw.{Found, at, nowhere, first}

-- Of the n places from i on, k is the first that passes.
pub record FirstAt (test : ℕ → Bool) (n i k : ℕ) : Type 0 where
  pub from : i ≤ k
  pub before_end : k < i + n
  pub passes : test k ≡ true
  pub missed : (j : ℕ) → i ≤ j → j < k → test j ≡ false

-- None of the n places from i on passes.
abbrev pub NoneAt : (ℕ → Bool) → ℕ → ℕ → Type 0
NoneAt test n i = (j : ℕ) → i ≤ j → j < i + n → test j ≡ false

-- What a search may come to.
pub data Searched (test : ℕ → Bool) (n i : ℕ) : Found → Type 0 where
  hit : (k : ℕ) → FirstAt test n i k → Searched test n i (at k)
  miss : NoneAt test n i → Searched test n i nowhere

module _ (test : ℕ → Bool) where
  -- A search stops at a place that passes, and goes on past one that does not.
  first_stops : (n i : ℕ) → test i ≡ true → first test (suc n) i ≡ at i
  unfolding first
  first_stops n i p = rw (p, first)

  first_goes_on : (n i : ℕ) → test i ≡ false → first test (suc n) i ≡ first test n (i + 1)
  unfolding first
  first_goes_on n i p = rw (p, first)

  -- what fails at i, and at each place from i + 1 up to e, fails at each from i up to e
  fails_from : (i e : ℕ) → test i ≡ false → ((j : ℕ) → i + 1 ≤ j → j < e → test j ≡ false) → (j : ℕ) → i ≤ j → j < e → test j ≡ false
  fails_from i e p f j a b = go (leb j i) refl
    where
      go : (z : Bool) → leb j i ≡ z → test j ≡ false
      go true q = let m : j ≡ i = omega (arith, leb-true j i q) in rw m p
      go false q = f j (omega (arith, leb-false j i q)) b

  -- a place that does not pass, and a search from the next one
  onward : (n i : ℕ) {f : Found} → test i ≡ false → Searched test n (i + 1) f → Searched test (suc n) i f
  onward n i p (hit k f) =
      hit k
      (record {
        from = let u = f.from in omega arith;
        before_end = let u = f.before_end in omega arith;
        passes = f.passes;
        missed = fails_from i k p f.missed;
      })
  onward n i p (miss f) = miss (fails_from i (i + suc n) p (λ j a b. f j a (omega arith)))

  -- `first` comes to such an end,
  pub searched : (n i : ℕ) → Searched test n i (first test n i)
  unfolding first
  searched zero i = miss (λ j a b. absurd (omega arith))
  searched (suc n) i = go (test i) refl (searched n (i + 1))
    where
      go : (b : Bool) → test i ≡ b → Searched test n (i + 1) (first test n (i + 1)) → Searched test (suc n) i (first test (suc n) i)
      go true p s =
          rw (first_stops n i p)
          (hit i
          (record {
            from = omega arith;
            before_end = omega arith;
            passes = p;
            missed = λ j a b. absurd (omega arith);
          }))
      go false p s = rw (first_goes_on n i p) (onward n i p s)

  clash : (k : ℕ) → test k ≡ true → test k ≡ false → ⊥
  clash k p q = true≢false (sym p ∙ q)

  -- two first places are one
  one_first : (n i k l : ℕ) → FirstAt test n i k → FirstAt test n i l → k ≡ l
  one_first n i k l f g = go (leb k l) refl (leb l k) refl
    where
      go : (z : Bool) → leb k l ≡ z → (y : Bool) → leb l k ≡ y → k ≡ l
      go true p true q = omega (arith, leb-true k l p, leb-true l k q)
      go true p false q = absurd (clash k f.passes (g.missed k f.from (leb-false l k q)))
      go false p y q = absurd (clash l g.passes (f.missed l g.from (leb-false k l p)))

  same_end : (n i : ℕ) {f g : Found} → Searched test n i f → Searched test n i g → f ≡ g
  same_end n i (hit k f) (hit l g) = ap at (one_first n i k l f g)
  same_end n i (hit k f) (miss g) = absurd (clash k f.passes (g k f.from f.before_end))
  same_end n i (miss f) (hit l g) = absurd (clash l g.passes (f l g.from g.before_end))
  same_end n i (miss f) (miss g) = refl

  -- and to no other
  pub searched_only : (n i : ℕ) {f : Found} → Searched test n i f → first test n i ≡ f
  searched_only n i s = same_end n i (searched n i) s
