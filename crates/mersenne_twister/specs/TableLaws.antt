-- The table follows the sequence: the twist in place makes the next 624 terms of any sequence that starts with the table and meets the
-- recurrence, and seeding in place makes the seed's table. With the laws of single stores, by which the loops of the code turn.
use Rattle.std.specs.Prelude.{◌≡◌, ℕ, zero, suc, ◌+◌, ◌%◌, ◌<◌, ◌≤◌, List, length, slice_index, slice_index_or, slice_set, refl}
use Rattle.std.proofs.Math.Logic.{⊎_elim}
use Rattle.std.proofs.Math.Path.{sym, ap}
use Rattle.std.proofs.Common.{◌∙◌, eq-or-lt_of_le, add-one, length-set, get_or-set_same, ext_get_or}
use native.Mathlib.Omega.{arith}
use Rattle.std.proofs.Math.Seq.{get_or-set_other}
use Rattle.mersenne_twister.specs.Sequence.{follow, Follows, StartsWith, terms, seed_word}
use Rattle.mersenne_twister.specs.SequenceLaws.{length_terms, terms_at}
use Rattle.mersenne_twister.specs.Table.{held, seed_table, seeded, stored, seeded_in, renew_with, renew_at, renewed}

-- ---- stores in a row

-- a store keeps the length
pub length_stored : (x : ℕ → ℕ) (n : ℕ) (t : List ℕ) → length (stored x n t) ≡ length t
unfolding stored
length_stored x zero t = refl
length_stored x (suc n) t = rw length-set (length_stored x n t)

stored_at : (x : ℕ → ℕ) (n : ℕ) (t : List ℕ) → n ≤ length t → (k : ℕ) → k < n → slice_index (stored x n t) k ≡ x k
unfolding stored
stored_at x zero t h k b = absurd (omega arith)
stored_at x (suc n) t h k b =
    let within : n < length (stored x n t) = omega (arith, length_stored x n t) in
    ⊎_elim
    (λ e. rw e (get_or-set_same (stored x n t) n (x n) 0 within))
    (λ l. get_or-set_other (stored x n t) n k (x n) 0 (λ e. omega arith) ∙ stored_at x n t (omega arith) k l)
    (eq-or-lt_of_le (omega arith))

-- all entries stored: nothing is left of what the table held
pub stored_all : (x : ℕ → ℕ) (t : List ℕ) → length t ≡ 624 → stored x 624 t ≡ terms x 0 624
stored_all x t n = ext_get_or 0 (stored x 624 t) _ (length_stored x 624 t ∙ n ∙ sym (length_terms x 0 624)) entry
  where
    entry : (j : ℕ) → j < length (stored x 624 t) → slice_index (stored x 624 t) j ≡ slice_index (terms x 0 624) j
    entry j h =
        let b : j < 624 = omega (arith, length_stored x 624 t) in
        stored_at x 624 t (omega arith) j b ∙ sym (terms_at x 0 624 j b ∙ ap x (omega arith))

-- seeding a table of 624 words in place, whatever they were, makes the seed's table
pub seeded_in_lem : (t : List ℕ) (s : ℕ) → length t ≡ 624 → seeded_in t s ≡ seeded s
unfolding seed_table
seeded_in_lem t s n = ap (λ (l : List ℕ). held l 624) (stored_all (seed_word s) t n)

-- the table of a seed has 624 words
pub length_seed_table : (s : ℕ) → length (seed_table s) ≡ 624
unfolding seed_table
length_seed_table s = length_terms (seed_word s) 0 624

-- one turn of the loop that stores
pub stored_more : (x : ℕ → ℕ) (t m : List ℕ) (i v : ℕ) → m ≡ stored x i t → v ≡ x i → slice_set m i v ≡ stored x (i + 1) t
unfolding stored
stored_more x t m i v p q = rw (p, q) (ap (λ (k : ℕ). stored x k t) (sym (add-one i)))

-- ---- the twist in place

-- the twist keeps the length
pub length_renewed : (n : ℕ) (t : List ℕ) → length (renewed n t) ≡ length t
unfolding renewed renew_at
length_renewed zero t = refl
length_renewed (suc n) t = rw length-set (length_renewed n t)

module _ (t : List ℕ) (x : ℕ → ℕ) (len : length t ≡ 624) (s : StartsWith t x) (f : Follows x) where
  -- the table once n entries are renewed: it holds x_n .. x_{n+623}, the term k at entry k % 624
  abbrev Holds : ℕ → Type 0
  Holds n = (k : ℕ) → n ≤ k → k < n + 624 → slice_index (renewed n t) (k % 624) ≡ x k

  -- so what is written next, at entry n, is the term 624 places on
  next_term : (n : ℕ) → n < 624 → Holds n
      → follow (slice_index (renewed n t) n) (slice_index (renewed n t) ((n + 1) % 624)) (slice_index (renewed n t) ((n + 397) % 624))
      ≡ x (n + 624)
  next_term n h holds =
      let at : n % 624 ≡ n = omega arith in
      let first : slice_index_or (renewed n t) n 0 ≡ x n = rw at at (holds n (omega arith) (omega arith)) in
      let second = holds (n + 1) (omega arith) (omega arith) in
      let third = holds (n + 397) (omega arith) (omega arith) in
      rw (second, third, first) (sym (f.term n))

  -- entry n is written, and every other entry stays
  pub renewed_at : (n : ℕ) → n ≤ 624 → Holds n
  unfolding renewed renew_at
  renewed_at zero h k lo hi = ap (λ (j : ℕ). slice_index t j) (omega arith) ∙ sym (s.word k (omega arith))
  renewed_at (suc n) h k lo hi =
      let before : Holds n = renewed_at n (omega arith) in
      let within : n < length (renewed n t) = omega (arith, length_renewed n t) in
      let made = next_term n (omega arith) before in
      ⊎_elim
      (λ new. let e : k % 624 ≡ n = omega arith in
      rw e (get_or-set_same (renewed n t) n _ 0 within ∙ made ∙ ap x (sym new)))
      (λ old. get_or-set_other (renewed n t) n (k % 624) _ 0 (λ e. omega arith) ∙ before k (omega arith) old)
      (eq-or-lt_of_le (omega arith))

  -- after the twist the table holds exactly x_624 .. x_1247
  pub twist_terms : renewed 624 t ≡ terms x 624 624
  twist_terms = ext_get_or 0 (renewed 624 t) _ (length_renewed 624 t ∙ len ∙ sym (length_terms x 624 624)) entry
    where
      entry : (j : ℕ) → j < length (renewed 624 t) → slice_index (renewed 624 t) j ≡ slice_index (terms x 624 624) j
      entry j h =
          let b : j < 624 = omega (arith, length_renewed 624 t) in
          let e : j ≡ (624 + j) % 624 = omega arith in
          ap (λ (i : ℕ). slice_index (renewed 624 t) i) e ∙ renewed_at 624 (omega arith) (624 + j) (omega arith) (omega arith)
          ∙ sym (terms_at x 624 624 j b)

-- one turn of a loop that renews, where the code has its own numbers for the two places ahead
pub renewed_more : (t m : List ℕ) (i j k : ℕ) → m ≡ renewed i t → j ≡ (i + 1) % 624 → k ≡ (i + 397) % 624
    → renew_with m i j k ≡ renewed (i + 1) t
unfolding renewed renew_at
renewed_more t m i j k p a b = rw (a, b, p) (ap (λ (n : ℕ). renewed n t) (sym (add-one i)))
