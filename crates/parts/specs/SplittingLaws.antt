-- The laws of `split`: it is refused exactly on the kinds other than 0, and what the call by value builds of the lent one.
use Rattle.std.specs.Prelude.{◌≡◌, refl}
use Rattle.std.proofs.Common.{sym, ◌∙◌, ap, arith}
use Rattle.random.specs.declared.backend.Backend.{Backend}
use Rattle.random.specs.declared.backend.Backend.TheVariants.{Xoshiro256PlusPlus, MersenneTwister, Pcg32, Pcg64}
use Rattle.random.specs.declared.backend.Random.{Random}
use Rattle.random.specs.declared.engine.Engine.{Engine}
use Rattle.parts.specs.Splitting.{Divided}
use Rattle.parts.specs.Kind.{kind_of}
use Rattle.making.specs.Make.{zero_generator}
use Rattle.parts.specs.Splitting.{engine_split_by, engine_split, refused_split, split_by, split_of}
use Rattle.random.specs.Lent.{engine_in, joined_with}

-- ---- refused on every other kind

refused_by : (b : Backend) (e : Engine) → (kind_of b ≡ 0 → ⊥) → refused_split e ≡ engine_split_by b e
refused_by (Xoshiro256PlusPlus x) e h = absurd (h refl)
refused_by MersenneTwister e h = refl
refused_by (Pcg32 p) e h = refl
refused_by (Pcg64 p) e h = refl

pub split_refused : (e : Engine) (b : Backend) → e.backend ≡ b → (kind_of b ≡ 0 → ⊥) → refused_split e ≡ engine_split e
unfolding engine_split
split_refused e b p h = refused_by b e h ∙ ap (λ (x : Backend). engine_split_by x e) (sym p)

-- ---- the call by value, by the lent one

module _ (g : Random) where
  answered_by : (b : Backend) → (engine_split_by b (engine_in g)).refusal ≡ 0
      → record { refusal = 0; parent = joined_with (engine_split_by b (engine_in g)).parent g.twister.mt; child = g } ≡ split_by b g
  answered_by (Xoshiro256PlusPlus x) z = refl
  answered_by MersenneTwister z = absurd (omega arith)
  answered_by (Pcg32 p) z = absurd (omega arith)
  answered_by (Pcg64 p) z = absurd (omega arith)

  -- answered: the parent is joined with the table again, and the child is the generator that came
  pub split_answered : (s : Divided Engine) → s ≡ engine_split (engine_in g) → s.refusal ≡ 0
      → record { refusal = 0; parent = joined_with s.parent g.twister.mt; child = g } ≡ split_of g
  unfolding engine_split split_of
  split_answered s e z = rw e (answered_by g.backend (ap (λ (x : Divided Engine). x.refusal) (sym e) ∙ z))

  none_by : (b : Backend) → ((engine_split_by b (engine_in g)).refusal ≡ 0 → ⊥)
      → record { refusal = (engine_split_by b (engine_in g)).refusal; parent = g; child = zero_generator } ≡ split_by b g
  none_by (Xoshiro256PlusPlus x) z = absurd (z refl)
  none_by MersenneTwister z = refl
  none_by (Pcg32 p) z = refl
  none_by (Pcg64 p) z = refl

  -- refused: the generator that came, and zeros
  pub split_none : (s : Divided Engine) → s ≡ engine_split (engine_in g) → (s.refusal ≡ 0 → ⊥)
      → record { refusal = s.refusal; parent = g; child = zero_generator } ≡ split_of g
  unfolding engine_split split_of
  split_none s e z = rw e (none_by g.backend (λ h. z (ap (λ (x : Divided Engine). x.refusal) e ∙ h)))

-- a generator is refused exactly where its kind is not 0
refusal_by : (b : Backend) (g : Random) → ((split_by b g).refusal ≡ 0 → kind_of b ≡ 0) × (kind_of b ≡ 0 → (split_by b g).refusal ≡ 0)
refusal_by (Xoshiro256PlusPlus x) g = (λ e. refl, λ e. refl)
refusal_by MersenneTwister g = (λ e. absurd (omega arith), λ e. absurd (omega arith))
refusal_by (Pcg32 p) g = (λ e. absurd (omega arith), λ e. absurd (omega arith))
refusal_by (Pcg64 p) g = (λ e. absurd (omega arith), λ e. absurd (omega arith))

pub split_exactly_if : (g : Random)
    → ((split_of g).refusal ≡ 0 → kind_of g.backend ≡ 0) × (kind_of g.backend ≡ 0 → (split_of g).refusal ≡ 0)
unfolding split_of
split_exactly_if g = refusal_by g.backend g
