-- The calls that move the generator by a word in place: what the code hands out of the word.
use Rattle.std.specs.Prelude.{ℕ, ◌≤◌, Float, pos, true, List, ◌≡◌}
use Rattle.std.proofs.Common.{arith, ◌∙◌, ap}
use borrow.Author.Tests.{eq-eqb, ne_eqb}
use Rattle.std.proofs.Math.Bool.{false}
use Rattle.std.proofs.Math.Path.{refl}
use Rattle.words.specs.Refusal as refusal
use Rattle.signed.specs.Signed.{signed_of}
use Rattle.floats.specs.Chances as chances
use Rattle.floats.proofs.IntervalLaws.{uniform_taken, uniform_refused}
use Rattle.floats.specs.Intervals.{interval_refusal, uniform_of}
use Rattle.floats.specs.Units as units
use Rattle.floats.specs.declared.intervals.Interval.{Interval}
use Rattle.random.specs.Generator.{word64_of, steps64, rand_of, u64_of, i64_of}
use Rattle.random.specs.GeneratorLaws.{later_none}
use Rattle.random.specs.declared.backend.Random.{Random}
use Rattle.float_draws.specs.Coins.{flip_from}
use Rattle.float_draws.specs.Spreads.{spread_from}
use Rattle.float_draws.specs.Units.{float_from, double_from}
use Rattle.lent_state.specs.Answers.{Told, told, Reply, formed, written, at_boundary}
use Rattle.lent_state.specs.AnswersLaws.{known_kind, kept}
use Rattle.vrd_ffi.specs.Handed.{word, signed_word, number32, number64, coin, zero32, zero64, uniform_number}
use Rattle.vrd_ffi.specs.Handed.{word_handed, signed_of64, float_of, double_of, coin_of, spread_of}
use Rattle.vrd_ffi.specs.Moves.{drew, Moves32, Moves64}
use Rattle.lent_state.specs.State.{kind_in, backend_in, generator_in}

module _ (s t : List ℕ) (k : kind_in s ≤ 3) {w : ℕ} {s' u : List ℕ} where
  -- a word drawn in place, handed out in some form
  moved_as : {A : Type 0} (d : Reply ℕ) (f : ℕ → A) (none : A) (call : Random → Reply A) → told w s' u ≡ written s d
      → formed f d ≡ call (generator_in s t) → told (f w) s' u ≡ at_boundary s t none call
  moved_as d f none call m e =
      ap (λ (x : Told ℕ). told (f x.answer) x.state x.table) m ∙ ap (written s) e ∙ known_kind s t none call k

  pub rand_moved : Moves32 s t w s' u → told (word w 0) s' u ≡ at_boundary s t (word 0 refusal.kind) (λ g. word_handed (rand_of g))
  rand_moved m = moved_as (drew (rand_of (generator_in s t))) (λ v. word v 0) _ _ m refl

  pub u64_moved : Moves64 s t w s' u → told (word w 0) s' u ≡ at_boundary s t (word 0 refusal.kind) (λ g. word_handed (u64_of g))
  u64_moved m = moved_as (drew (u64_of (generator_in s t))) (λ v. word v 0) _ _ m refl

  pub i64_moved : Moves64 s t w s' u
      → told (signed_word (signed_of 64 w) 0) s' u ≡ at_boundary s t (signed_word (pos 0) refusal.kind) (λ g. signed_of64 (i64_of g))
  unfolding u64_of i64_of
  i64_moved m = moved_as (drew (u64_of (generator_in s t))) (λ v. signed_word (signed_of 64 v) 0) _ _ m refl

  -- ---- floats

  pub float_moved : Moves32 s t w s' u
      → told (number32 (units.float_of w) 0) s' u ≡ at_boundary s t (number32 zero32 refusal.kind) (λ g. float_of (float_from g))
  unfolding rand_of float_from
  float_moved m = moved_as (drew (rand_of (generator_in s t))) (λ v. number32 (units.float_of v) 0) _ _ m refl

  pub double_moved : Moves64 s t w s' u
      → told (number64 (units.double_of w) 0) s' u ≡ at_boundary s t (number64 zero64 refusal.kind) (λ g. double_of (double_from g))
  unfolding u64_of double_from
  double_moved m = moved_as (drew (u64_of (generator_in s t))) (λ v. number64 (units.double_of v) 0) _ _ m refl

  pub coin_moved : (p : Float) → chances.is_chance p ≡ true → Moves64 s t w s' u
      → told (coin (chances.coin_of p w).value (steps64 (backend_in s)) 0) s' u
      ≡ at_boundary s t (coin false 0 refusal.kind) (λ g. coin_of (flip_from g p))
  unfolding u64_of flip_from
  coin_moved p c m =
      moved_as (drew (u64_of (generator_in s t))) (λ v. coin (chances.coin_of p v).value (steps64 (backend_in s)) 0) _ _ m (rw c)

  pub spread_moved : (i : Interval) → interval_refusal i ≡ 0 → Moves64 s t w s' u
      → told (uniform_number (uniform_of i w)) s' u ≡ at_boundary s t (number64 zero64 refusal.kind) (λ g. spread_of (spread_from g i))
  unfolding u64_of spread_from
  spread_moved i z m =
      moved_as (drew (u64_of (generator_in s t))) (λ v. uniform_number (uniform_of i v)) _ _ m
      (rw (uniform_taken i (word64_of (generator_in s t)) z, eq-eqb (interval_refusal i) 0 z))

-- ---- refused, and no word drawn

module _ (s t : List ℕ) (k : kind_in s ≤ 3) where
  pub coin_refused : (p : Float) → chances.is_chance p ≡ false
      → told (coin false 0 refusal.chance) s t ≡ at_boundary s t (coin false 0 refusal.kind) (λ g. coin_of (flip_from g p))
  unfolding flip_from
  coin_refused p c =
      kept s t _ _ k refusal.chance (coin false 0 refusal.chance) (λ e. omega (arith, e)) (rw (c, later_none (generator_in s t)))

  pub spread_refused : (i : Interval) → (interval_refusal i ≡ 0 → ⊥)
      → told (number64 zero64 (interval_refusal i)) s t ≡ at_boundary s t (number64 zero64 refusal.kind) (λ g. spread_of (spread_from g i))
  unfolding spread_from
  spread_refused i z =
      kept s t _ _ k (interval_refusal i) (number64 zero64 (interval_refusal i)) z
      (rw (uniform_refused i (word64_of (generator_in s t)) z, ne_eqb (interval_refusal i) 0 z, later_none (generator_in s t)))
