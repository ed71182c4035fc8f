-- The laws of moves: each kind's own word, half a word of 64 bits, and the first word of a draw.
use Rattle.std.specs.Prelude.{◌≡◌, refl, Bool, true, false, cond, List, ℕ, zero, suc, ◌≤◌, ◌<◌, ◌/◌, ◌*◌, ◌%◌, ◌^◌, ◌+◌, eqb, get_or}
use Rattle.std.proofs.Common.{sym, ◌∙◌, ap, arith, mod-lt, eq-eqb, ne_eqb}
use Rattle.words.specs.Draw.{good}
use Rattle.words.proofs.BelowItsBound.{quotient_below}
use Rattle.words.proofs.GoodWord.{good_passes, passes_good, passes_positive}
use Rattle.source.specs.declared.Drawn.{Drawn}
use Rattle.mersenne_twister.specs.declared.table.Step.{Step}
use Rattle.mersenne_twister.specs.DrawLaws.{in_low}
use Rattle.mersenne_twister.specs.Sequence.{temper}
use Rattle.mersenne_twister.specs.Table as twister
use Rattle.mersenne_twister.specs.declared.MersenneTwister.{MersenneTwister}
use Rattle.pcg.specs.Pcg32 as pcg32
use Rattle.pcg.specs.Pcg64 as pcg64
use Rattle.pcg.specs.declared.pcg32.Pcg32 as pcg32_type
use Rattle.pcg.specs.declared.pcg64.Pcg64 as pcg64_type
use Rattle.xoshiro.specs.Generator as xoshiro
use Rattle.xoshiro.specs.declared.Xoshiro256PlusPlus as xoshiro_type
use Rattle.random.specs.Generator.{step, later, word_of, word64_of, steps64, rand_of, u64_of}
use Rattle.random.specs.GeneratorLaws.{rand_is_high_half}
use Rattle.random.specs.declared.backend.Backend.TheVariants.{Xoshiro256PlusPlus, Pcg64}
use Rattle.lent_state.specs.Answers.{Told, told}
use Rattle.vrd_ffi.specs.Moves.{steps_in, Moves32, Moves64, IsWide, Settled, Settles, Quick}
use Rattle.lent_state.specs.State.{kind_in, position_in, xoshiro_in, pcg32_in, pcg64_in, backend_in, generator_in}
use Rattle.lent_state.specs.State.{six, small_state, position_state, state_with, state_after}

-- ---- each kind's own words: `s'` is the state after the write

-- the twister's draw, told as six words and its table
abbrev twister_told : List ℕ → Drawn ℕ MersenneTwister → Told ℕ
twister_told s d = told d.word (six 1 d.next.mti (get_or s 2 0) (get_or s 3 0) (get_or s 4 0) (get_or s 5 0)) d.next.mt

module _ (s t : List ℕ) (s' : List ℕ) where
  pub xoshiro_moved : kind_in s ≡ 0 → (d : Drawn ℕ xoshiro_type.Xoshiro256PlusPlus) → d ≡ xoshiro.drawn_high (xoshiro_in s)
      → s' ≡ small_state s d.next.s0 d.next.s1 d.next.s2 d.next.s3 → Moves32 s t d.word s' t
  unfolding rand_of word_of step backend_in state_with state_after
  xoshiro_moved k d h w = rw (w, k, h)

  pub pcg32_moved : kind_in s ≡ 2 → (d : Drawn ℕ pcg32_type.Pcg32) → d ≡ pcg32.drawn (pcg32_in s)
      → s' ≡ small_state s d.next.state d.next.inc (get_or s 4 0) (get_or s 5 0) → Moves32 s t d.word s' t
  unfolding rand_of word_of step backend_in state_with state_after
  pcg32_moved k d h w = rw (w, k, h)

  pub pcg64_moved : kind_in s ≡ 3 → (d : Drawn ℕ pcg64_type.Pcg64) → d ≡ pcg64.drawn_high (pcg64_in s)
      → s' ≡ small_state s d.next.state.high d.next.state.low d.next.inc.high d.next.inc.low → Moves32 s t d.word s' t
  unfolding rand_of word_of step backend_in state_with state_after
  pcg64_moved k d h w = rw (w, k, h)

  pub twister_moved : kind_in s ≡ 1 → (d : Step ℕ) (u : List ℕ) → twister.stepped d u ≡ twister.drawn_in t (position_in s)
      → s' ≡ position_state s d.mti → Moves32 s t d.word s' u
  unfolding rand_of word_of step backend_in state_with state_after
  twister_moved k d u h w =
      rw (w, k) (ap (twister_told s) h)

  -- the twister's word where its table is not renewed for it
  pub twister_ready : kind_in s ≡ 1 → (m : ℕ) → m ≡ position_in s → m < 624 → (w : ℕ) → w ≡ temper (get_or t m 0)
      → s' ≡ position_state s (m + 1) → Moves32 s t w s' t
  twister_ready k m at low w h e =
      twister_moved k (record { word = w; mti = m + 1 }) t
      (ap (λ (n : ℕ). twister.stepped (record { word = n; mti = m + 1 }) t) h ∙ sym (in_low t m low) ∙ ap (twister.drawn_in t) at) e

  -- ---- of 64 bits

  pub xoshiro_moved64 : kind_in s ≡ 0 → (d : Drawn ℕ xoshiro_type.Xoshiro256PlusPlus) → d ≡ xoshiro.drawn (xoshiro_in s)
      → s' ≡ small_state s d.next.s0 d.next.s1 d.next.s2 d.next.s3 → Moves64 s t d.word s' t
  unfolding u64_of word64_of later step backend_in state_with state_after
  xoshiro_moved64 k d h w = rw (w, k, h)

  pub pcg32_moved64 : kind_in s ≡ 2 → (d : Drawn ℕ pcg32_type.Pcg32) → d ≡ pcg32.drawn_twice (pcg32_in s)
      → s' ≡ small_state s d.next.state d.next.inc (get_or s 4 0) (get_or s 5 0) → Moves64 s t d.word s' t
  unfolding u64_of word64_of later step backend_in state_with state_after
  pcg32_moved64 k d h w = rw (w, k, h)

  pub pcg64_moved64 : kind_in s ≡ 3 → (d : Drawn ℕ pcg64_type.Pcg64) → d ≡ pcg64.drawn (pcg64_in s)
      → s' ≡ small_state s d.next.state.high d.next.state.low d.next.inc.high d.next.inc.low → Moves64 s t d.word s' t
  unfolding u64_of word64_of later step backend_in state_with state_after
  pcg64_moved64 k d h w = rw (w, k, h)

  pub twister_moved64 : kind_in s ≡ 1 → (d : Step ℕ) (u : List ℕ) → twister.stepped d u ≡ twister.drawn64_in t (position_in s)
      → s' ≡ position_state s d.mti → Moves64 s t d.word s' u
  unfolding u64_of word64_of later step backend_in state_with state_after twister.drawn64
  twister_moved64 k d u h w =
      rw (w, k) (ap (twister_told s) h)

-- ---- the two widths

pub known_narrow : (kind : ℕ) → (kind ≡ 0 → ⊥) → (kind ≡ 3 → ⊥) → kind ≤ 3 → (kind ≡ 1 → ⊥) → kind ≡ 2
known_narrow kind h l k other = omega (arith, h, l, k, other)

-- ---- kinds 0 and 3: `rand` is the high half of the word of 64 bits

one_step : (s : List ℕ) → IsWide s → (n : ℕ) → kind_in s ≡ n → steps64 (backend_in s) ≡ 1
unfolding backend_in
one_step s h zero k = rw (eq-eqb (get_or s 0 0) 0 k)
one_step s h (suc n) k =
    let e : kind_in s ≡ 3 = h (λ z. omega (arith, k, z)) in
    rw (e)

-- the words that a word of 64 bits takes, of kinds other than 1 and 2
pub one_word : (s : List ℕ) → (kind_in s ≡ 1 → ⊥) → (kind_in s ≡ 2 → ⊥) → 1 ≡ steps_in s
unfolding backend_in
one_word s h l = go (kind_in s) refl
  where
    -- kind 3, and a kind above it, which is read as kind 0
    other : (is3 : Bool) → 1 ≡ steps64 (cond is3 (Pcg64 (pcg64_in s)) (Xoshiro256PlusPlus (xoshiro.parts 0 0 0 0)))
    other true = refl
    other false = refl

    go : (n : ℕ) → kind_in s ≡ n → 1 ≡ steps_in s
    go zero k = rw k
    go (suc n) k =
        let some : kind_in s ≡ 0 → ⊥ = λ z. omega (arith, k, z) in
        rw (ne_eqb (get_or s 0 0) 0 some, ne_eqb (get_or s 0 0) 1 h, ne_eqb (get_or s 0 0) 2 l) (other (eqb (get_or s 0 0) 3))

pub half_moved : (s t : List ℕ) (w : ℕ) (s' u : List ℕ) → IsWide s → Moves64 s t w s' u → Moves32 s t (w / 2 ^ 32) s' u
unfolding rand_of u64_of later
half_moved s t w s' u wide e =
    let g = generator_in s t in
    let one : steps64 g.backend ≡ 1 = one_step s wide (kind_in s) refl in
    ap (λ (x : Told ℕ). told (x.answer / 2 ^ 32) x.state x.table) e ∙ rw (one, rand_is_high_half g one)

-- ---- a word whose product with r leaves more than r settles the draw

surely_good : (r w : ℕ) → r < (w * r) % 2 ^ 32 → good r w ≡ true
surely_good zero w h = absurd (omega (arith, h))
surely_good (suc n) w h =
    let small : 2 ^ 32 % suc n < suc n = mod-lt (2 ^ 32) (omega arith) in
    passes_good (suc n) w (omega (arith, small, h))

pub settles : (w r p : ℕ) → w < 2 ^ 32 → p ≡ w * r → r < p % 2 ^ 32 → Settled w r (p / 2 ^ 32)
settles w r p sized e more =
    let fine : good r w ≡ true = surely_good r w (rw e at more) in
    let pos : 0 < r = passes_positive r w (good_passes r w fine) in
    record { fine = fine; drawn = ap (λ (n : ℕ). n / 2 ^ 32) e; small = rw e (quotient_below r w pos sized) }

-- where the generator was moved by a word that settles the draw,
pub quick_hit : {s t : List ℕ} {r w q : ℕ} {s' : List ℕ} → kind_in s ≤ 3 → Moves32 s t w s' t → Settles w r q → q < 2 ^ 32
    → Quick s t r q s'
unfolding rand_of
quick_hit {s} {t} {r} {w} {q} {s'} k m f z =
    let same : w ≡ word_of (generator_in s t) = ap (λ (x : Told ℕ). x.answer) m in
    let moved : Moves32 s t (word_of (generator_in s t)) s' t = ap (λ (n : ℕ). told n s' t) (sym same) ∙ m in
    let found : Settled (word_of (generator_in s t)) r q = rw same at (f z) in
    record { hit = λ y. record { known = k; moved = moved; settled = found }; miss = λ y. absurd (omega (arith, z, y)) }

-- and where nothing changed
pub quick_miss : {s t : List ℕ} {r : ℕ} → Quick s t r (2 ^ 32) s
quick_miss = record { hit = λ z. absurd (omega (arith, z)); miss = λ z. refl }

-- ---- two tries, one after the other

module _ {s t : List ℕ} {r q₁ q₂ : ℕ} {s₁ s₂ : List ℕ} (first : Quick s t r q₁ s₁) (none : 2 ^ 32 ≤ q₁) (second : Quick s₁ t r q₂ s₂) where
  -- where the first settled nothing, the second was tried on the state that came,
  pub second_tried : Quick s t r q₂ s₂
  second_tried = rw (first.miss none) at second

  -- which is there still where it settled nothing either
  pub both_missed : 2 ^ 32 ≤ q₂ → s₂ ≡ s
  both_missed neither = second.miss neither ∙ first.miss none
