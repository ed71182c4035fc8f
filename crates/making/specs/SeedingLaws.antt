-- `seed` on kind 1 is the making from that seed, whole: nothing is left of what the generator was.
use Rattle.std.specs.Prelude.{◌≡◌, ℕ, length}
use Rattle.std.proofs.Common.{sym, ap, ◌∙◌}
use Rattle.mersenne_twister.specs.Table as twister
use Rattle.mersenne_twister.specs.TableLaws.{seeded_in_lem}
use Rattle.random.specs.declared.backend.Backend.TheVariants.{MersenneTwister}
use Rattle.random.specs.declared.backend.Random.{Random}
use Rattle.making.specs.Make.{of_twister}
use Rattle.making.specs.Promises.{SeedPromise, NewMersenneTwisterWithSeedPromise}
use Rattle.making.specs.Seeding.{seeded_to}

module _ (g : Random) (s : ℕ) (kind : g.backend ≡ MersenneTwister) (long : length g.twister.mt ≡ 624) where
  -- the definitions
  pub seeded_whole : seeded_to g s ≡ of_twister (twister.seeded s)
  unfolding seeded_to
  seeded_whole = rw kind (ap of_twister (seeded_in_lem g.twister.mt s long))

  -- the calls: what `seed` and what `new_mersenne_twister_with_seed` hand back
  pub seed_is_making : {a b : Random} → SeedPromise g s a → NewMersenneTwisterWithSeedPromise s b → a ≡ b
  seed_is_making p q = p ∙ seeded_whole ∙ sym q
