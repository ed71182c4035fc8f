-- When a list and a window are refused, and with which number: the checks as relations in the documents' words, each with one number.
use Rattle.std.specs.Prelude.{◌≡◌, refl, ◌↔◌, ◌⊎◌, ℕ, zero, suc, ◌≤◌, ◌<◌}
use Rattle.std.proofs.Common.{sym, ◌∙◌, inl, inr, lt_of_not-le}
use Rattle.std.proofs.Math.Decide.{dec_le}
use native.Mathlib.Omega.{arith}
use borrow.Author.Tests.{lt-ltb, le-ltb, eq-eqb, ne_eqb}
use Rattle.words.specs.Refusal.{answered, empty, too_long, out_of_budget}
use Rattle.words.specs.Refusal as refusal
use Rattle.lists.specs.Limit.{list_limit}
use Rattle.lists.specs.Checks.{list_refusal, window_refusal, first_of, slice_refusal}

-- ---- the list

-- "EMPTY"; "TOO LONG": a list above the limit
pub data OfList (n : ℕ) : ℕ → Type 0 where
  is_empty : n ≡ 0 → OfList n empty
  too_long_lem : list_limit < n → OfList n too_long
  allowed : 0 < n → n ≤ list_limit → OfList n answered

module _ {n : ℕ} where
  pub list_only : {number : ℕ} → OfList n number → list_refusal n ≡ number
  unfolding list_refusal
  list_only (is_empty z) = rw (eq-eqb n 0 z)
  list_only (too_long_lem h) =
      let some : n ≡ 0 → ⊥ = λ z. omega arith in
      rw (ne_eqb n 0 some, lt-ltb list_limit n h)
  list_only (allowed p h) =
      let some : n ≡ 0 → ⊥ = λ z. omega arith in
      rw (ne_eqb n 0 some, le-ltb list_limit n h)

  pub list_is : OfList n (list_refusal n)
  list_is = go n refl
    where
      told : {number : ℕ} → OfList n number → OfList n (list_refusal n)
      told f = rw (list_only f) f

      go : (k : ℕ) → n ≡ k → OfList n (list_refusal n)
      go zero e = told (is_empty e)
      go (suc k) e =
          elim (dec_le n list_limit) [
            | yes h ↦ told (allowed (omega arith) h)
            | no h ↦ told (too_long_lem (lt_of_not-le h))
          ]

  pub list_empty_exactly_if : (list_refusal n ≡ empty) ↔ (n ≡ 0)
  list_empty_exactly_if = (only_if list_is, λ z. list_only (is_empty z))
    where
      only_if : {number : ℕ} → OfList n number → number ≡ empty → n ≡ 0
      only_if (is_empty z) e = z
      only_if (too_long_lem h) e = absurd (omega arith)
      only_if (allowed p h) e = absurd (omega arith)

  pub list_too_long_exactly_if : (list_refusal n ≡ too_long) ↔ (list_limit < n)
  list_too_long_exactly_if = (only_if list_is, λ h. list_only (too_long_lem h))
    where
      only_if : {number : ℕ} → OfList n number → number ≡ too_long → list_limit < n
      only_if (is_empty z) e = absurd (omega arith)
      only_if (too_long_lem h) e = h
      only_if (allowed p h) e = absurd (omega arith)

  pub list_allowed_exactly_if : (list_refusal n ≡ answered) ↔ ((0 < n) × (n ≤ list_limit))
  list_allowed_exactly_if = (only_if list_is, λ h. list_only (allowed h.0 h.1))
    where
      only_if : {number : ℕ} → OfList n number → number ≡ answered → (0 < n) × (n ≤ list_limit)
      only_if (is_empty z) e = absurd (omega arith)
      only_if (too_long_lem h) e = absurd (omega arith)
      only_if (allowed p h) e = (p, h)

-- a check never gives the number that a draw may come to
pub list_not_short : (n : ℕ) → list_refusal n ≡ out_of_budget → ⊥
list_not_short n = go list_is
  where
    go : {number : ℕ} → OfList n number → number ≡ out_of_budget → ⊥
    go (is_empty z) e = absurd (omega arith)
    go (too_long_lem h) e = absurd (omega arith)
    go (allowed p h) e = absurd (omega arith)

-- ---- the window

-- "WINDOW: window 0, or longer than the list"
pub data OfWindow (n window : ℕ) : ℕ → Type 0 where
  is_none : window ≡ 0 → OfWindow n window refusal.window
  too_wide : n < window → OfWindow n window refusal.window
  allowed : 0 < window → window ≤ n → OfWindow n window answered

module _ {n window : ℕ} where
  pub window_only : {number : ℕ} → OfWindow n window number → window_refusal n window ≡ number
  unfolding window_refusal
  window_only (is_none z) = rw (eq-eqb window 0 z)
  window_only (too_wide h) =
      let some : window ≡ 0 → ⊥ = λ z. omega arith in
      rw (ne_eqb window 0 some, lt-ltb n window h)
  window_only (allowed p h) =
      let some : window ≡ 0 → ⊥ = λ z. omega arith in
      rw (ne_eqb window 0 some, le-ltb n window h)

  pub window_is : OfWindow n window (window_refusal n window)
  window_is = go window refl
    where
      told : {number : ℕ} → OfWindow n window number → OfWindow n window (window_refusal n window)
      told f = rw (window_only f) f

      go : (k : ℕ) → window ≡ k → OfWindow n window (window_refusal n window)
      go zero e = told (is_none e)
      go (suc k) e =
          elim (dec_le window n) [
            | yes h ↦ told (allowed (omega arith) h)
            | no h ↦ told (too_wide (lt_of_not-le h))
          ]

-- ---- both, the list first

module _ (a b : ℕ) where
  pub first_passed : a ≡ answered → first_of a b ≡ b
  unfolding first_of
  first_passed h = rw (eq-eqb a answered h)

  pub first_refuses : (a ≡ answered → ⊥) → first_of a b ≡ a
  unfolding first_of
  first_refuses h = rw (ne_eqb a answered h)

-- "Order: .. 4, 5, 6"
pub data OfSlice (n window : ℕ) : ℕ → Type 0 where
  is_empty : n ≡ 0 → OfSlice n window empty
  too_long_lem : list_limit < n → OfSlice n window too_long
  bad_window : 0 < n → n ≤ list_limit → (window ≡ 0) ⊎ (n < window) → OfSlice n window refusal.window
  allowed : 0 < n → n ≤ list_limit → 0 < window → window ≤ n → OfSlice n window answered

module _ (n window : ℕ) where
  by_list : {number : ℕ} → OfList n number → (number ≡ answered → ⊥) → slice_refusal n window ≡ number
  by_list f h =
      let e = list_only f in
      first_refuses (list_refusal n) (window_refusal n window) (λ z. h (sym e ∙ z)) ∙ e

  by_window : {number : ℕ} → 0 < n → n ≤ list_limit → OfWindow n window number → slice_refusal n window ≡ number
  by_window p h f = first_passed (list_refusal n) (window_refusal n window) (list_only (allowed p h)) ∙ window_only f

  pub slice_only : {number : ℕ} → OfSlice n window number → slice_refusal n window ≡ number
  slice_only (is_empty z) = by_list (is_empty z) (λ e. omega arith)
  slice_only (too_long_lem h) = by_list (too_long_lem h) (λ e. omega arith)
  slice_only (bad_window p h (inl z)) = by_window p h (is_none z)
  slice_only (bad_window p h (inr w)) = by_window p h (too_wide w)
  slice_only (allowed p h q w) = by_window p h (allowed q w)

  pub slice_is : OfSlice n window (slice_refusal n window)
  slice_is = go list_is
    where
      told : {number : ℕ} → OfSlice n window number → OfSlice n window (slice_refusal n window)
      told f = rw (slice_only f) f

      both : {number : ℕ} → 0 < n → n ≤ list_limit → OfWindow n window number → OfSlice n window (slice_refusal n window)
      both p h (is_none z) = told (bad_window p h (inl z))
      both p h (too_wide w) = told (bad_window p h (inr w))
      both p h (allowed q w) = told (allowed p h q w)

      go : {number : ℕ} → OfList n number → OfSlice n window (slice_refusal n window)
      go (is_empty z) = told (is_empty z)
      go (too_long_lem h) = told (too_long_lem h)
      go (allowed p h) = both p h window_is

  pub slice_empty_exactly_if : (slice_refusal n window ≡ empty) ↔ (n ≡ 0)
  slice_empty_exactly_if = (only_if slice_is, λ z. slice_only (is_empty z))
    where
      only_if : {number : ℕ} → OfSlice n window number → number ≡ empty → n ≡ 0
      only_if (is_empty z) e = z
      only_if (too_long_lem h) e = absurd (omega arith)
      only_if (bad_window p h w) e = absurd (omega arith)
      only_if (allowed p h q w) e = absurd (omega arith)

  pub slice_too_long_exactly_if : (slice_refusal n window ≡ too_long) ↔ (list_limit < n)
  slice_too_long_exactly_if = (only_if slice_is, λ h. slice_only (too_long_lem h))
    where
      only_if : {number : ℕ} → OfSlice n window number → number ≡ too_long → list_limit < n
      only_if (is_empty z) e = absurd (omega arith)
      only_if (too_long_lem h) e = h
      only_if (bad_window p h w) e = absurd (omega arith)
      only_if (allowed p h q w) e = absurd (omega arith)

  pub slice_window_exactly_if : (slice_refusal n window ≡ refusal.window) ↔ ((0 < n) × (n ≤ list_limit) × ((window ≡ 0) ⊎ (n < window)))
  slice_window_exactly_if = (only_if slice_is, λ h. slice_only (bad_window h.0 h.1 h.2))
    where
      only_if : {number : ℕ} → OfSlice n window number → number ≡ refusal.window
          → (0 < n) × (n ≤ list_limit) × ((window ≡ 0) ⊎ (n < window))
      only_if (is_empty z) e = absurd (omega arith)
      only_if (too_long_lem h) e = absurd (omega arith)
      only_if (bad_window p h w) e = (p, h, w)
      only_if (allowed p h q w) e = absurd (omega arith)

  pub slice_allowed_exactly_if : (slice_refusal n window ≡ answered) ↔ ((n ≤ list_limit) × (0 < window) × (window ≤ n))
  slice_allowed_exactly_if = (only_if slice_is, λ h. slice_only (let w = h.2 in allowed (omega (arith, h.1)) h.0 h.1 w))
    where
      only_if : {number : ℕ} → OfSlice n window number → number ≡ answered → (n ≤ list_limit) × (0 < window) × (window ≤ n)
      only_if (is_empty z) e = absurd (omega arith)
      only_if (too_long_lem h) e = absurd (omega arith)
      only_if (bad_window p h w) e = absurd (omega arith)
      only_if (allowed p h q w) e = (h, q, w)

  pub slice_not_short : slice_refusal n window ≡ out_of_budget → ⊥
  slice_not_short = go slice_is
    where
      go : {number : ℕ} → OfSlice n window number → number ≡ out_of_budget → ⊥
      go (is_empty z) e = absurd (omega arith)
      go (too_long_lem h) e = absurd (omega arith)
      go (bad_window p h w) e = absurd (omega arith)
      go (allowed p h q w) e = absurd (omega arith)
