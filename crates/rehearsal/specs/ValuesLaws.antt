-- The laws of values that words settle: one word more, some words more, and that only the words themselves count.
use Rattle.std.specs.Prelude.{◌≡◌, Bool, true, false, cond, List, [], ◌∷◌, ◌++◌, ℕ, zero, suc, ◌+◌, ◌≤◌, ◌<◌, length}
use Rattle.std.proofs.Math.Path.{refl}
use Rattle.std.proofs.Common.{sym, ◌∙◌, ap, append_assoc, append-nil, add-zero, arith, length-append}
use Rattle.std.proofs.Math.Numerals.{add-one}
use Rattle.words.specs.Draw.{Words, after, good, quotient}
use Rattle.rehearsal.specs.Bounds.{bound_after}
use Rattle.rehearsal.specs.BoundsLaws.{bound_more}
use Rattle.rehearsal.specs.Values.{settled_by, values_after, settled_after, bound_left}

module _ (s : Words) (first : ℕ) (falls : Bool) where
  -- Before the first word nothing is settled.
  pub values_none : values_after s first falls 0 ≡ []
  unfolding values_after
  values_none = refl

  -- One word more adds what it settles of the draw below the bound that is left.
  pub values_one : (n : ℕ) → values_after s first falls (n + 1)
      ≡ values_after s first falls n ++ settled_by (bound_left s first falls n) (s n)
  unfolding values_after
  values_one n = rw add-one

  -- the next word settles a draw,
  pub values_good : (n : ℕ) → good (bound_left s first falls n) (s n) ≡ true
      → values_after s first falls (n + 1) ≡ values_after s first falls n ++ (quotient (bound_left s first falls n) (s n) ∷ [])
  values_good n g = values_one n ∙ rw g

  -- and so one draw more is settled,
  pub settled_good : (n : ℕ) → good (bound_left s first falls n) (s n) ≡ true
      → settled_after s first falls (n + 1) ≡ settled_after s first falls n + 1
  settled_good n g = ap length (values_good n g) ∙ simp length-append

  -- or none
  pub values_bad : (n : ℕ) → good (bound_left s first falls n) (s n) ≡ false
      → values_after s first falls (n + 1) ≡ values_after s first falls n
  values_bad n g = values_one n ∙ rw (g, append-nil)

  -- so a word settles at most one draw, and n words at most n.
  few_by : (b : Bool) (v : ℕ) → length (cond b (v ∷ []) []) ≤ 1
  few_by true v = omega arith
  few_by false v = omega arith

  -- n words more settle at most n draws more.
  pub settled_few : (m n : ℕ) → settled_after s first falls (m + n) ≤ settled_after s first falls m + n
  settled_few m zero = rw add-zero (omega arith)
  settled_few m (suc n) =
      let one : m + suc n ≡ m + n + 1 = omega arith in
      let r = bound_left s first falls (m + n) in
      let more = few_by (good r (s (m + n))) (quotient r (s (m + n))) in
      let before = settled_few m n in
      rw (one, values_one (m + n), length-append) (omega arith)

-- m words, and then n more: the further ones go on from the bound that is left
pub values_more : (s : Words) (first : ℕ) (falls : Bool) (m n : ℕ)
    → values_after s first falls (m + n) ≡ values_after s first falls m ++ values_after (after m s) (bound_left s first falls m) falls n
values_more s first falls m zero = rw (add-zero, values_none (after m s) (bound_left s first falls m) falls, append-nil)
values_more s first falls m (suc n) =
    let before = values_more s first falls m n in
    let vs = values_after s first falls m in
    let ws = values_after (after m s) (bound_left s first falls m) falls n in
    let r : bound_left s first falls (m + n) ≡ bound_after falls (bound_left s first falls m) (length ws) =
    ap (λ (l : List ℕ). bound_after falls first (length l)) before ∙ ap (bound_after falls first) (length-append vs ws)
    ∙ sym (bound_more falls first (length vs) (length ws)) in
    let one : m + suc n ≡ m + n + 1 = omega arith in
    let last : suc n ≡ n + 1 = omega arith in
    rw (one, last, values_one s first falls (m + n), values_one (after m s) (bound_left s first falls m) falls n, r, before)
    (append_assoc vs ws (settled_by (bound_after falls (bound_left s first falls m) (length ws)) (s (m + n))))

-- two sequences with the same first n words settle the same
pub values_same : (s t : Words) (first : ℕ) (falls : Bool) (n : ℕ) → ((j : ℕ) → j < n → s j ≡ t j)
    → values_after s first falls n ≡ values_after t first falls n
values_same s t first falls zero h = values_none s first falls ∙ sym (values_none t first falls)
values_same s t first falls (suc n) h =
    let before = values_same s t first falls n (λ j k. h j (omega arith)) in
    let word = h n (omega arith) in
    let last : suc n ≡ n + 1 = omega arith in
    rw (last, values_one s first falls n, values_one t first falls n, before, word)
