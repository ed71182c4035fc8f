-- The recurrence has exactly one solution for each 624 words to start from: `sequence` is one, and there is no other.
use Rattle.std.specs.Prelude.{◌≡◌, ℕ, zero, suc, ◌+◌, ◌-◌, ◌<◌, List, [], ◌∷◌, length, drop, slice_index, refl}
use Rattle.std.proofs.Common.{sym, ap, ◌∙◌, lt_of_not-le, zero-add, add-zero, suc-add, add-suc, add_assoc, one-add, arith, length-append}
use Rattle.std.proofs.Common.{length-drop, get_or-drop, ext_get_or}
use Rattle.std.proofs.Math.Decide.{dec_le}
use Rattle.std.proofs.Math.ListN.{get_or-append}
use Rattle.std.proofs.lemmas.List.{get_or_at}
use Rattle.mersenne_twister.specs.Sequence.{follow, Follows, StartsWith, moved, moved_by, sequence, terms}

-- ---- one place along

length_moved : (t : List ℕ) → length t ≡ 624 → length (moved t) ≡ 624
unfolding moved
length_moved t n = length-append (drop 1 t) _ ∙ rw length-drop (omega arith)

moved_at : (t : List ℕ) (j : ℕ) → length t ≡ 624 → suc j < 624 → slice_index (moved t) j ≡ slice_index t (suc j)
unfolding moved
moved_at t j n h =
    get_or-append (drop 1 t) _ 0 j (rw length-drop (omega arith)) ∙ get_or-drop 1 t j 0 ∙ ap (λ (i : ℕ). slice_index t i) (one-add j)

moved_last : (t : List ℕ) → length t ≡ 624 → slice_index (moved t) 623 ≡ follow (slice_index t 0) (slice_index t 1) (slice_index t 397)
unfolding moved
moved_last t n = get_or_at (drop 1 t) _ [] 0 623 (rw length-drop (omega arith))

-- ---- any number of places along

-- the words stay 624
pub length_moved_by : (n : ℕ) (t : List ℕ) → length t ≡ 624 → length (moved_by n t) ≡ 624
unfolding moved_by
length_moved_by zero t h = h
length_moved_by (suc n) t h = length_moved_by n (moved t) (length_moved t h)

-- n places and then m are n + m
pub moved_add : (n m : ℕ) (t : List ℕ) → moved_by (n + m) t ≡ moved_by m (moved_by n t)
unfolding moved_by
moved_add zero m t = ap (λ (k : ℕ). moved_by k t) (zero-add m)
moved_add (suc n) m t = ap (λ (k : ℕ). moved_by k t) (suc-add n m) ∙ moved_add n m (moved t)

-- the sequence from place n on is that of the words moved n places
pub sequence_from : (t : List ℕ) (n j : ℕ) → sequence t (n + j) ≡ sequence (moved_by n t) j
unfolding sequence
sequence_from t n j = ap (λ (l : List ℕ). slice_index l 0) (moved_add n j t)

-- ---- `sequence` is a solution

-- its first 624 terms are the words that it starts from
pub sequence_first : (t : List ℕ) (j : ℕ) → length t ≡ 624 → j < 624 → sequence t j ≡ slice_index t j
unfolding sequence moved_by
sequence_first t zero n h = refl
sequence_first t (suc j) n h = sequence_first (moved t) j (length_moved t n) (omega arith) ∙ moved_at t j n h

sequence_suc : (t : List ℕ) (k : ℕ) → sequence t (suc k) ≡ sequence (moved t) k
unfolding sequence moved_by
sequence_suc t k = refl

sequence_624 : (t : List ℕ) → length t ≡ 624 → sequence t 624 ≡ follow (sequence t 0) (sequence t 1) (sequence t 397)
sequence_624 t n =
    sequence_suc t 623 ∙ sequence_first (moved t) 623 (length_moved t n) (omega arith) ∙ moved_last t n
    ∙ rw (← sequence_first t 0 n (omega arith), ← sequence_first t 1 n (omega arith), ← sequence_first t 397 n (omega arith))

pub starts_with : (t : List ℕ) → length t ≡ 624 → StartsWith t (sequence t)
starts_with t n = record { word = λ k h. sequence_first t k n h }

-- it meets the recurrence at every place: there the words have moved, and the recurrence is that of their start
pub follows : (t : List ℕ) → length t ≡ 624 → Follows (sequence t)
follows t n = record {
  term = λ k. sequence_from t k 624 ∙ sequence_624 (moved_by k t) (length_moved_by k t n)
      ∙ rw (← sequence_from t k 0, ← sequence_from t k 1, ← sequence_from t k 397, add-zero);
}

-- ---- and there is no other

agree_below : {x y : ℕ → ℕ} → Follows x → Follows y → ((k : ℕ) → k < 624 → x k ≡ y k) → (n k : ℕ) → k < n → x k ≡ y k
agree_below fx fy first zero k h = absurd (omega arith)
agree_below {x} {y} fx fy first (suc n) k h =
    let less : (j : ℕ) → j < n → x j ≡ y j = agree_below fx fy first n in
    elim (dec_le 624 k) [
      | yes lo ↦
          let j = k - 624 in
          let e : k ≡ j + 624 = omega arith in
          rw e (fx.term j ∙ rw (less j (omega arith), less (j + 1) (omega arith), less (j + 397) (omega arith)) (sym (fy.term j)))
      | no hi ↦ first k (lt_of_not-le hi)
    ]

-- two sequences that meet the recurrence and agree on the first 624 terms agree on all
pub agree : {x y : ℕ → ℕ} → Follows x → Follows y → ((k : ℕ) → k < 624 → x k ≡ y k) → (k : ℕ) → x k ≡ y k
agree fx fy first k = agree_below fx fy first (suc k) k (omega arith)

-- so every solution that starts with the words is `sequence`
pub unique : (t : List ℕ) (x : ℕ → ℕ) → length t ≡ 624 → StartsWith t x → Follows x → (k : ℕ) → x k ≡ sequence t k
unique t x n s f k = agree f (follows t n) (λ j h. s.word j h ∙ sym (sequence_first t j n h)) k

-- ---- lists of terms

-- n terms are n
pub length_terms : (x : ℕ → ℕ) (k n : ℕ) → length (terms x k n) ≡ n
unfolding terms
length_terms x k zero = refl
length_terms x k (suc n) = ap suc (length_terms x (suc k) n)

-- entry i is the term i places on
pub terms_at : (x : ℕ → ℕ) (k n i : ℕ) → i < n → slice_index (terms x k n) i ≡ x (k + i)
unfolding terms
terms_at x k zero i h = absurd (omega arith)
terms_at x k (suc n) zero h = ap x (sym (add-zero k))
terms_at x k (suc n) (suc i) h = terms_at x (suc k) n i (omega arith) ∙ ap x (suc-add k i ∙ sym (add-suc k i))

-- the terms of a sequence that begins b places on
pub terms_from : (x : ℕ → ℕ) (b k n : ℕ) → terms (λ (j : ℕ). x (b + j)) k n ≡ terms x (b + k) n
unfolding terms
terms_from x b k zero = refl
terms_from x b k (suc n) =
    ap (λ (l : List ℕ). x (b + k) ∷ l) (terms_from x b (suc k) n ∙ ap (λ (j : ℕ). terms x j n) (add-suc b k))

-- ---- a solution from place b on is the solution that starts with its 624 terms from there

pub follows_from : {x : ℕ → ℕ} (b : ℕ) → Follows x → Follows (λ (k : ℕ). x (b + k))
follows_from {x} b f = record { term = λ k. rw (← add_assoc b k 624, ← add_assoc b k 1, ← add_assoc b k 397) (f.term (b + k)) }

pub terms_start : (x : ℕ → ℕ) (b : ℕ) → StartsWith (terms x b 624) (λ (k : ℕ). x (b + k))
terms_start x b = record { word = λ k h. sym (terms_at x b 624 k h) }

-- the words that it starts with are its first terms
pub start_terms : (t : List ℕ) (x : ℕ → ℕ) → length t ≡ 624 → StartsWith t x → t ≡ terms x 0 624
start_terms t x n s =
    ext_get_or 0 t _ (n ∙ sym (length_terms x 0 624))
    (λ j h. let b : j < 624 = omega arith in sym (s.word j b) ∙ sym (terms_at x 0 624 j b ∙ ap x (zero-add j)))
