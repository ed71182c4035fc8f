-- Words have 32 bits, and tables of such words stay so. `Words t` bounds every entry, also past the end, where `get_or` gives 0: so no law
-- asks for a length.
use Rattle.std.specs.Prelude.{◌≡◌, ℕ, zero, suc, ◌+◌, ◌*◌, ◌/◌, ◌%◌, ◌^◌, ◌<◌, ◌≤◌, List, length, ◌≢◌, bit_and, bit_xor, slice_index}
use Rattle.std.specs.Prelude.{slice_index_or, slice_set}
use Rattle.std.proofs.Common.{⊎_elim, eq-zero-or-pos, eq-or-lt_of_le, lt_of_not-le, lt_of_le_of_lt, div-le_self, mod-lt, mod-eq_of_lt}
use Rattle.std.proofs.Common.{arith, eq-eqb, ne_eqb, lit<, get_or-set_same, get_or-set_other}
use Rattle.std.proofs.Math.Decide.{dec_le}
use Rattle.std.proofs.lemmas.Nat.{and_le_l, xor_lt}
use Rattle.std.proofs.Math.ListN.{get_or-eq_default}
use Rattle.std.proofs.Math.Seq.{set_out}
use Rattle.mersenne_twister.specs.declared.MersenneTwister.{MersenneTwister}
use Rattle.mersenne_twister.specs.Sequence.{times_a, joined, follow, terms, temper, temper1, temper2, temper3, temper4, seed_step}
use Rattle.mersenne_twister.specs.Sequence.{seed_word}
use Rattle.mersenne_twister.specs.SequenceLaws.{length_terms, terms_at}
use Rattle.mersenne_twister.specs.Table.{seed_table, stored, renew_at, renewed, drawn, drawn64, after, word_of}
use Rattle.mersenne_twister.specs.DrawLaws.{in_low, in_high, word64_is}

-- every entry of t has 32 bits
abbrev pub Words : (t : List ℕ) → Type 0
Words t = (j : ℕ) → slice_index t j < 2 ^ 32

-- ---- single words

joined_lt : (u l : ℕ) → joined u l < 2 ^ 32
unfolding joined
joined_lt u l = omega arith

times_lt : (v : ℕ) → v < 2 ^ 32 → times_a v < 2 ^ 32
unfolding times_a
times_lt v h =
    ⊎_elim
    (λ e. rw (eq-eqb (v % 2) 0 e) (omega arith))
    (λ o. rw (ne_eqb (v % 2) 0 (λ e. omega arith)) (xor_lt 32 (v / 2) 0x9908b0df (omega arith) (omega arith)))
    (eq-zero-or-pos (v % 2))

-- a term of the recurrence has 32 bits where the term 397 places after the first has
pub follow_lt : (u l m : ℕ) → m < 2 ^ 32 → follow u l m < 2 ^ 32
unfolding follow
follow_lt u l m h = xor_lt 32 m _ h (times_lt _ (joined_lt u l))

-- a tempered word has 32 bits, whatever number it was
pub temper_lt : (x : ℕ) → temper x < 2 ^ 32
unfolding temper temper1 temper2 temper3 temper4
temper_lt x = shifted 18 (masked 15 0xefc60000 (masked 7 0x9d2c5680 (shifted 11 (mod-lt x (lit< tt)))))
  where
    shifted : {a : ℕ} (k : ℕ) → a < 2 ^ 32 → bit_xor a (a / 2 ^ k) < 2 ^ 32
    shifted {a} k b = xor_lt 32 a _ b (lt_of_le_of_lt (div-le_self a (2 ^ k)) b)

    masked : {a : ℕ} (k m : ℕ) → a < 2 ^ 32 → bit_xor a (bit_and (a * 2 ^ k % 2 ^ 32) m) < 2 ^ 32
    masked {a} k m b = xor_lt 32 a _ b (omega (arith, and_le_l (a * 2 ^ k % 2 ^ 32) m))

-- of a word of 32 bits it is the four steps in a row
pub temper_steps : (x : ℕ) → x < 2 ^ 32 → temper4 (temper3 (temper2 (temper1 x))) ≡ temper x
unfolding temper
temper_steps x h = rw (mod-eq_of_lt h)

-- seeding keeps 32 bits
pub seed_word_lt : (s i : ℕ) → s < 2 ^ 32 → seed_word s i < 2 ^ 32
unfolding seed_word seed_step
seed_word_lt s zero h = h
seed_word_lt s (suc i) h = omega arith

-- ---- tables

-- a list of terms that have 32 bits each
pub words_terms : (x : ℕ → ℕ) (k n : ℕ) → ((i : ℕ) → x i < 2 ^ 32) → Words (terms x k n)
words_terms x k n b j =
    elim (dec_le n j) [
      | yes out ↦
          let past : length (terms x k n) ≤ j = omega (arith, length_terms x k n) in
          rw (get_or-eq_default (terms x k n) 0 past) (omega arith)
      | no within ↦ rw (terms_at x k n j (lt_of_not-le within)) (b (k + j))
    ]

pub words_seeded : (s : ℕ) → s < 2 ^ 32 → Words (seed_table s)
unfolding seed_table
words_seeded s h = words_terms (seed_word s) 0 624 (λ i. seed_word_lt s i h)

-- a store keeps the bound
pub words_set : (t : List ℕ) (i v : ℕ) → Words t → v < 2 ^ 32 → Words (slice_set t i v)
words_set t i v w h j =
    elim (dec_le (length t) i) [
      | yes out ↦ rw (set_out t i v out) (w j)
      | no within ↦
          let here : slice_index_or (slice_set t i v) i 0 < 2 ^ 32 = rw (get_or-set_same t i v 0 (lt_of_not-le within)) h in
          let there : (j ≢ i) → slice_index (slice_set t i v) j < 2 ^ 32 = λ ne. rw (get_or-set_other t i j v 0 ne) (w j) in
          elim (dec_le j i) [
            | yes le ↦ ⊎_elim (λ e. rw e here) (λ lt. there (λ e. omega arith)) (eq-or-lt_of_le le)
            | no gt ↦ there (λ e. gt (omega arith))
          ]
    ]

-- so do stores in a row, and the twist
pub words_stored : (x : ℕ → ℕ) (n : ℕ) (t : List ℕ) → ((i : ℕ) → x i < 2 ^ 32) → Words t → Words (stored x n t)
unfolding stored
words_stored x zero t b w = w
words_stored x (suc n) t b w = words_set (stored x n t) n (x n) (words_stored x n t b w) (b n)

pub words_renewed : (n : ℕ) (t : List ℕ) → Words t → Words (renewed n t)
unfolding renewed renew_at
words_renewed zero t w = w
words_renewed (suc n) t w =
    words_set (renewed n t) n _ (words_renewed n t w) (follow_lt _ _ _ (words_renewed n t w ((n + 397) % 624)))

-- ---- draws

-- a word drawn has 32 bits, whatever the table holds,
pub drawn_lt : (g : MersenneTwister) → (drawn g).word < 2 ^ 32
drawn_lt g =
    elim (dec_le 624 g.mti) [
      | yes h ↦ rw (in_high g.mt g.mti h) (temper_lt _)
      | no h ↦ rw (in_low g.mt g.mti (lt_of_not-le h)) (temper_lt _)
    ]

pub word_lt : (g : MersenneTwister) (k : ℕ) → word_of g k < 2 ^ 32
unfolding word_of
word_lt g k = drawn_lt (after k g)

pub word64_lt : (g : MersenneTwister) → (drawn64 g).word < 2 ^ 64
word64_lt g = rw (word64_is g) (omega (arith, word_lt g 0, word_lt g 1))

-- and a table whose entries have 32 bits each stays one
pub words_drawn : (g : MersenneTwister) → Words g.mt → Words (drawn g).next.mt
words_drawn g w =
    elim (dec_le 624 g.mti) [
      | yes h ↦ rw (in_high g.mt g.mti h) (words_renewed 624 g.mt w)
      | no h ↦ rw (in_low g.mt g.mti (lt_of_not-le h)) w
    ]

pub words_after : (n : ℕ) (g : MersenneTwister) → Words g.mt → Words (after n g).mt
unfolding after
words_after zero g w = w
words_after (suc n) g w = words_drawn (after n g) (words_after n g w)
