-- The table gives the words of the paper's sequence: the k-th word from 624 words and any position is the tempering of the right term.
use Rattle.std.specs.Prelude.{◌≡◌, ℕ, zero, suc, ◌+◌, ◌<◌, min, List, length, slice_index}
use Rattle.std.proofs.Common.{sym, ap, ◌∙◌, zero-add, add_comm, add-suc, lt_of_not-le, le_of_lt, le_refl, add-one, one-add, add-one-le}
use Rattle.std.proofs.Common.{arith}
use Rattle.std.proofs.Math.Decide.{dec_le}
use Rattle.std.proofs.Math.Nat.{min-eq_left, min-eq_right}
use Rattle.mersenne_twister.specs.declared.MersenneTwister.{MersenneTwister}
use Rattle.source.specs.declared.Drawn.{Drawn}
use Rattle.mersenne_twister.specs.Sequence.{follow, Follows, StartsWith, sequence, terms, temper, seed_word}
use Rattle.mersenne_twister.specs.SequenceLaws.{sequence_first, follows, follows_from, length_terms, terms_at, terms_from}
use Rattle.mersenne_twister.specs.SequenceLaws.{terms_start, start_terms}
use Rattle.mersenne_twister.specs.Table.{held, stored_position, seed_table, seeded, renewed, drawn_at, drawn_in, drawn, after, word_of}
use Rattle.mersenne_twister.specs.TableLaws.{length_seed_table, twist_terms}
use Rattle.mersenne_twister.specs.DrawLaws.{in_low, in_high, after_add}

-- drawing from g gives term q of x: the table drawn from holds the terms from `base` on, and `place` is the entry
record Stands (x : ℕ → ℕ) (q : ℕ) (g : MersenneTwister) : Type 0 where
  base : ℕ
  place : ℕ
  low : place < 624
  there : base + place ≡ q
  is : drawn g ≡ drawn_at (terms x base 624) place

-- the twist takes the terms from b on to those from b + 624 on
twist_on : {x : ℕ → ℕ} → Follows x → (b : ℕ) → renewed 624 (terms x b 624) ≡ terms x (b + 624) 624
twist_on {x} f b =
    twist_terms (terms x b 624) (λ (k : ℕ). x (b + k)) (length_terms x b 624) (terms_start x b) (follows_from b f)
    ∙ terms_from x b 624 624

stand : {x : ℕ → ℕ} → Follows x → (b p : ℕ) → Stands x (b + min p 624) (held (terms x b 624) p)
stand f b p =
    elim (dec_le 624 p) [
      | yes h ↦ record {
        base = b + 624;
        place = 0;
        low = omega arith;
        there = rw (min-eq_right h) (omega arith);
        is = in_high _ p h ∙ ap (λ (l : List ℕ). drawn_at l 0) (twist_on f b);
      }
      | no h ↦ let l : p < 624 = lt_of_not-le h in
          record { base = b; place = p; low = l; there = ap (λ (k : ℕ). b + k) (sym (min-eq_left (le_of_lt l))); is = in_low _ p l }
    ]

stands_word : {x : ℕ → ℕ} {q : ℕ} {g : MersenneTwister} → Stands x q g → (drawn g).word ≡ temper (x q)
stands_word {x} s =
    ap (λ (d : Drawn ℕ MersenneTwister). d.word) s.is ∙ ap temper (terms_at x s.base 624 s.place s.low ∙ ap x s.there)

stands_next : {x : ℕ → ℕ} {q : ℕ} {g : MersenneTwister} → Follows x → Stands x q g → Stands x (q + 1) (drawn g).next
stands_next {q = q} f s =
    let e : s.base + min (s.place + 1) 624 ≡ q + 1 = rw (min-eq_left (add-one-le s.low)) (omega arith) in
    rw (s.is, ← e) (stand f s.base (s.place + 1))

stood : {x : ℕ → ℕ} → Follows x → (p k : ℕ) → Stands x (min p 624 + k) (after k (held (terms x 0 624) p))
unfolding after
stood f p zero = rw (add_comm (min p 624) 0) (stand f 0 p)
stood f p (suc k) = rw (add-suc, ← add-one (min p 624 + k)) (stands_next f (stood f p k))

-- THE THEOREM: word k from 624 words and any position p is the tempering of x_{min(p, 624) + k}, for every sequence x that starts with
-- these words and meets the recurrence
pub words : (t : List ℕ) (p : ℕ) (x : ℕ → ℕ) → length t ≡ 624 → StartsWith t x → Follows x → (k : ℕ)
    → word_of (held t p) k ≡ temper (x (min p 624 + k))
unfolding word_of
words t p x n s f k = rw (start_terms t x n s) (stands_word (stood f p k))

seed_at : (s j : ℕ) → j < 624 → slice_index (seed_table s) j ≡ seed_word s j
unfolding seed_table
seed_at s j h = terms_at (seed_word s) 0 624 j h ∙ ap (seed_word s) (zero-add j)

-- word k of a seeded generator is the tempering of x_{624+k}, where x_0 .. x_623 are the words of the seed
pub seeded_words : (s : ℕ) (x : ℕ → ℕ) → ((k : ℕ) → k < 624 → x k ≡ seed_word s k) → Follows x → (k : ℕ)
    → word_of (seeded s) k ≡ temper (x (624 + k))
seeded_words s x first f k =
    words (seed_table s) 624 x (length_seed_table s) (record { word = λ j h. first j h ∙ sym (seed_at s j h) }) f k

-- the first 227 of them need no term but those
pub early_words : (s k : ℕ) → k < 227 → word_of (seeded s) k ≡ temper (follow (seed_word s k) (seed_word s (k + 1)) (seed_word s (k + 397)))
early_words s k h =
    let n = length_seed_table s in
    let x = sequence (seed_table s) in
    let f = follows (seed_table s) n in
    let first : (j : ℕ) → j < 624 → x j ≡ seed_word s j
    = λ j b. sequence_first (seed_table s) j n b ∙ seed_at s j b in
    seeded_words s x first f k
    ∙ rw (add_comm 624 k, f.term k, first k (omega arith), first (k + 1) (omega arith), first (k + 397) (omega arith))

-- ---- a position above 624 and the 624 that is stored for it: no word can tell them apart

drawn_stored : (t : List ℕ) (p : ℕ) → drawn_in t (stored_position p) ≡ drawn_in t p
drawn_stored t p =
    elim (dec_le 624 p) [
      | yes h ↦ rw (min-eq_right h) (in_high t 624 (le_refl 624) ∙ sym (in_high t p h))
      | no h ↦ rw (min-eq_left (le_of_lt (lt_of_not-le h)))
    ]

from_next : (g : MersenneTwister) (k : ℕ) → after (suc k) g ≡ after k (drawn g).next
unfolding after
from_next g k = ap (λ (n : ℕ). after n g) (sym (one-add k)) ∙ after_add 1 k g

-- word after word
pub stored_words : (t : List ℕ) (p k : ℕ) → word_of (held t (stored_position p)) k ≡ word_of (held t p) k
unfolding word_of after
stored_words t p zero = ap (λ (d : Drawn ℕ MersenneTwister). d.word) (drawn_stored t p)
stored_words t p (suc k) =
    let same : after k (drawn (held t (stored_position p))).next ≡ after k (drawn (held t p)).next
    = ap (λ (d : Drawn ℕ MersenneTwister). after k d.next) (drawn_stored t p) in
    ap (λ (h : MersenneTwister). (drawn h).word) (from_next (held t (stored_position p)) k ∙ same ∙ sym (from_next (held t p) k))
