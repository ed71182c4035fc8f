-- The laws of the float draws: what the code over a lent table and by value builds, and what a refusal leaves.
use Rattle.std.specs.Prelude.{Bool, true, false, List, Result, Ok, Err, ◌≡◌, refl, ℕ, T, ℤ, Float}
use Rattle.std.proofs.Common.{sym, ◌∙◌, arith}
use Rattle.std.proofs.Math.Path.{ap}
use borrow.Author.Tests.{eq-eqb, ne_eqb}
use Rattle.std.specs.Float.{fin, binary64}
use Rattle.std.specs.Float.Ieee.{fits}
use Rattle.floats.specs.Chances.{Coin, is_chance, coin_of}
use Rattle.floats.proofs.IntervalLaws.{uniform_refused}
use Rattle.floats.proofs.NoMinusZero.{answer_never_minus_zero}
use Rattle.floats.specs.Intervals.{interval_refusal, uniform_of}
use Rattle.floats.specs.Units.{float_of, double_of}
use Rattle.floats.specs.declared.intervals.Interval.{Interval}
use Rattle.floats.specs.declared.intervals.Uniform.TheVariants.{Number, Refused}
use Rattle.words.specs.Refusal as refusal
use Rattle.random.specs.declared.backend.Random.{Random}
use Rattle.random.specs.Generator.{word64_of, steps64, width_of, rand_of, u64_of}
use Rattle.source.specs.declared.Drawn.{Drawn}
use Rattle.random.specs.GeneratorLaws.{later_none}
use Rattle.random.specs.Lent.{joined_with, joined_word}
use Rattle.random.specs.declared.backend.Backend.{Backend}
use Rattle.random.specs.declared.backend.Backend.TheVariants.{Xoshiro256PlusPlus, MersenneTwister, Pcg32, Pcg64}
use Rattle.words.specs.declared.refusal.Refusal.{Refusal}
use Rattle.words.specs.declared.reply.Given.{Given}
use Rattle.words.specs.declared.reply.Reply.{Reply}
use Rattle.random.specs.declared.engine.Engine.{Engine}
use Rattle.float_draws.specs.Coins.{flip, flip_told, flip_of, flip_from, joined_flip}
use Rattle.float_draws.specs.Spreads.{spread_from}
use Rattle.float_draws.specs.Units.{float_from, double_from}
use Rattle.float_draws.specs.Promises.{UniformPromise}
use Rattle.float_draws.specs.declared.intervals.Spread.{Spread}

-- ---- over a lent table: a word that was drawn, its engine and the table that it left

-- the float of the word
pub float_in : (g : Random) (r : Drawn ℕ Engine) (t : List ℕ) → joined_word r t ≡ rand_of g
    → record { value = float_of r.word; next = joined_with r.next t } ≡ float_from g
unfolding float_from rand_of
float_in g r t h = rw (ap (λ (d : Drawn ℕ Random). d.word) h, ap (λ (d : Drawn ℕ Random). d.next) h)

-- the double of the 64-bit word
pub double_in : (g : Random) (r : Drawn ℕ Engine) (t : List ℕ) → joined_word r t ≡ u64_of g
    → record { value = double_of r.word; next = joined_with r.next t } ≡ double_from g
unfolding double_from u64_of
double_in g r t h = rw (ap (λ (d : Drawn ℕ Random). d.word) h, ap (λ (d : Drawn ℕ Random). d.next) h)

-- the words of a 64-bit word, by the width of the kind's own
pub steps_wide : (b : Backend) → width_of b ≡ 8 → 1 ≡ steps64 b
steps_wide (Xoshiro256PlusPlus x) e = refl
steps_wide MersenneTwister e = absurd (omega arith)
steps_wide (Pcg32 p) e = absurd (omega arith)
steps_wide (Pcg64 p) e = refl

pub steps_narrow : (b : Backend) → (width_of b ≡ 8 → ⊥) → 2 ≡ steps64 b
steps_narrow (Xoshiro256PlusPlus x) e = absurd (e refl)
steps_narrow MersenneTwister e = refl
steps_narrow (Pcg32 p) e = refl
steps_narrow (Pcg64 p) e = absurd (e refl)

module _ (g : Random) (p : Float) where
  -- the coin of the 64-bit word, where p is a chance
  pub flip_taken : is_chance p ≡ true → (r : Drawn ℕ Engine) (t : List ℕ) → joined_word r t ≡ u64_of g
      → flip_of (coin_of p r.word) (steps64 g.backend) (joined_with r.next t) ≡ flip_from g p
  unfolding flip_from u64_of
  flip_taken c r t h = rw (c, ap (λ (d : Drawn ℕ Random). d.word) h, ap (λ (d : Drawn ℕ Random). d.next) h)

  -- the same of a coin that the code tossed
  pub flip_tossed : {v : Bool} → is_chance p ≡ true → (r : Drawn ℕ Engine) (t : List ℕ) → joined_word r t ≡ u64_of g
      → record { refusal = 0; value = v } ≡ coin_of p r.word
      → flip_of (record { refusal = 0; value = v }) (steps64 g.backend) (joined_with r.next t) ≡ flip_from g p
  flip_tossed c r t h coin = ap (λ (k : Coin). flip_of k (steps64 g.backend) (joined_with r.next t)) coin ∙ flip_taken c r t h

  -- and where it is none, nothing drawn
  pub flip_refused : is_chance p ≡ false → record { refusal = refusal.chance; value = false; used = 0; next = g } ≡ flip_from g p
  unfolding flip_from
  flip_refused c = rw (c, later_none g)

-- what is told stays, by value as over a lent table
pub flip_joined : (a : Reply Bool Engine) (t : List ℕ)
    → flip (record { next = joined_with a.next t; told = a.told }) ≡ joined_flip (flip a) t
flip_joined a t = go a.told
  where
    go : (told : Result (Given Bool) Refusal) → flip_told told (joined_with a.next t) ≡ joined_flip (flip_told told a.next) t
    go (Ok g) = refl
    go (Err r) = refl

module _ (g : Random) (i : Interval) where
  -- the number of the 64-bit word, where the interval is taken
  pub spread_taken : interval_refusal i ≡ 0 → (r : Drawn ℕ Engine) (t : List ℕ) → joined_word r t ≡ u64_of g
      → record { answer = uniform_of i r.word; next = joined_with r.next t } ≡ spread_from g i
  unfolding spread_from u64_of
  spread_taken z r t h =
      rw (eq-eqb (interval_refusal i) 0 z, ap (λ (d : Drawn ℕ Random). d.word) h, ap (λ (d : Drawn ℕ Random). d.next) h)

  -- and where it is refused, nothing drawn
  pub spread_refused : (interval_refusal i ≡ 0 → ⊥) → record { answer = Refused (interval_refusal i); next = g } ≡ spread_from g i
  unfolding spread_from
  spread_refused z = rw (uniform_refused i (word64_of g) z, ne_eqb (interval_refusal i) 0 z, later_none g)

-- ---- `uniform` never gives -0.0: low is a float of the format, as every f64 is

pub uniform_never_minus_zero : (g : Random) (i : Interval) {r : Spread Random} → UniformPromise g i r → T (fits binary64 i.low)
    → (e : ℤ) → r.answer ≡ Number (fin true 0 e) → ⊥
unfolding spread_from
uniform_never_minus_zero g i p v e h = answer_never_minus_zero i (word64_of g) v e (sym (ap (λ (s : Spread Random). s.answer) p) ∙ h)

-- ---- a refusal leaves the generator as it was

pub flip_keeps : (g : Random) (p : Float) → is_chance p ≡ false → (flip_from g p).next ≡ g
unfolding flip_from
flip_keeps g p c = rw c (later_none g)

pub spread_keeps : (g : Random) (i : Interval) → (interval_refusal i ≡ 0 → ⊥) → (spread_from g i).next ≡ g
unfolding spread_from
spread_keeps g i z = rw (ne_eqb (interval_refusal i) 0 z) (later_none g)
