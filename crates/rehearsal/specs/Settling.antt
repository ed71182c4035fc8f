-- The loop over a list of words that settles draws: what holds after some of the words, with one law for each way through it.
use Rattle.std.specs.Prelude.{◌≡◌, refl, Bool, true, false, List, ◌∷◌, ◌++◌, ℕ, suc, ◌+◌, ◌-◌, ◌≤◌, ◌<◌, length, get_or, set, drop}
use Rattle.std.proofs.Common.{sym, ◌∙◌, ap, append_assoc, add-one, arith, length-append, length-drop, drop-cons, get_or-append-add}
use Rattle.std.proofs.Common.{get_or-drop}
use Rattle.std.proofs.Math.Seq.{set-append_seam}
use Rattle.words.specs.Draw.{listed, good, quotient}
use Rattle.rehearsal.specs.Bounds.{bound_after}
use Rattle.rehearsal.specs.BoundsLaws.{bound_none, bound_more}
use Rattle.rehearsal.specs.Values.{values_after, settled_after, bound_left}
use Rattle.rehearsal.specs.ValuesLaws.{values_none, values_good, values_bad, settled_good, settled_few}

-- The first i words of the list l₀ have settled k draws and left the bound b; their values stand in front of what l₀ had behind them.
pub record Settling (l₀ : List ℕ) (first : ℕ) (falls : Bool) (i k b : ℕ) (l : List ℕ) : Type 0 where
  pub within : i ≤ length l₀
  pub counted : k ≡ settled_after (listed l₀) first falls i
  pub bound : b ≡ bound_left (listed l₀) first falls i
  pub list : l ≡ values_after (listed l₀) first falls i ++ drop (settled_after (listed l₀) first falls i) l₀

-- Before the first word the list is as it came.
pub settling_start : (l : List ℕ) (first : ℕ) (falls : Bool) → Settling l first falls 0 0 first l
unfolding values_after
settling_start l first falls = record { within = omega arith; counted = refl; bound = sym (bound_none falls first); list = refl }

module _ {l₀ : List ℕ} {first : ℕ} {falls : Bool} {i k b : ℕ} {l : List ℕ} (h : Settling l₀ first falls i k b l) where
  -- no more draws are settled than words are looked at
  pub settling_few : k ≤ i
  settling_few =
      let few = settled_few (listed l₀) first falls 0 i in
      let none = ap length (values_none (listed l₀) first falls) in
      let z : 0 + i ≡ i = omega arith in
      let some = rw z at few in
      omega (arith, h.counted, some, none)

  -- the list keeps its length
  pub settling_length : length l ≡ length l₀
  settling_length =
      let few = settling_few in
      let within = h.within in
      let counted = h.counted in
      rw (h.list, length-append, length-drop) (omega arith)

  -- the next word is still there
  pub settling_word : i < length l₀ → get_or l i 0 ≡ get_or l₀ i 0
  settling_word more =
      let n = settled_after (listed l₀) first falls i in
      let vs = values_after (listed l₀) first falls i in
      let few : n ≤ i = omega (arith, h.counted, settling_few) in
      let split : i ≡ n + (i - n) = omega arith in
      ap (λ (x : List ℕ). get_or x i 0) h.list ∙ ap (λ (j : ℕ). get_or (vs ++ drop n l₀) j 0) split
      ∙ get_or-append-add vs (drop n l₀) (i - n) 0 ∙ get_or-drop n l₀ (i - n) 0 ∙ ap (λ (j : ℕ). get_or l₀ j 0) (sym split)

  module _ {w : ℕ} (more : i < length l₀) (word : w ≡ get_or l₀ i 0) where
    -- it settles a draw,
    pub settling_good : {v b' : ℕ} → good b w ≡ true → v ≡ quotient b w → b' ≡ bound_after falls b 1
        → Settling l₀ first falls (i + 1) (k + 1) b' (set l k v)
    settling_good {v} g q next = record {
      within = omega arith;
      counted = ap (λ (x : ℕ). x + 1) h.counted ∙ sym (settled_good s first falls i here);
      bound = next ∙ ap (λ (x : ℕ). bound_after falls x 1) h.bound ∙ bound_more falls first n 1
          ∙ ap (bound_after falls first) (sym (settled_good s first falls i here));
      list = put ∙ rw (settled_good s first falls i here, values_good s first falls i here, add-one, append_assoc);
    }
      where
        s : ℕ → ℕ
        s = listed l₀

        n : ℕ
        n = settled_after s first falls i

        vs : List ℕ
        vs = values_after s first falls i

        here : good (bound_left s first falls i) (s i) ≡ true
        here = ap (λ (x : ℕ). good x (s i)) (sym h.bound) ∙ ap (good b) (sym word) ∙ g

        value : v ≡ quotient (bound_left s first falls i) (s i)
        value = q ∙ ap (quotient b) word ∙ ap (λ (x : ℕ). quotient x (s i)) h.bound

        room : n < length l₀
        room = omega (arith, h.counted, settling_few)

        put : set l k v ≡ vs ++ (quotient (bound_left s first falls i) (s i) ∷ drop (suc n) l₀)
        put = ap (λ (x : ℕ). set l x v) h.counted
            ∙ ap (λ (x : List ℕ). set x n v) (h.list ∙ ap (λ (x : List ℕ). vs ++ x) (drop-cons l₀ n 0 room))
            ∙ set-append_seam vs (get_or l₀ n 0) (drop (suc n) l₀) v ∙ ap (λ (x : ℕ). vs ++ (x ∷ drop (suc n) l₀)) value

    -- or it does not.
    pub settling_bad : good b w ≡ false → Settling l₀ first falls (i + 1) k b l
    settling_bad g =
        let here : good (bound_left (listed l₀) first falls i) (listed l₀ i) ≡ false =
        ap (λ (x : ℕ). good x (listed l₀ i)) (sym h.bound) ∙ ap (good b) (sym word) ∙ g in
        let same = values_bad (listed l₀) first falls i here in
        record { within = omega arith; counted = rw same h.counted; bound = rw same h.bound; list = rw same h.list }
