-- The parts of a generator are sized: its small words have 64 bits each, the entries of its table and its position 32. These are the
-- numbers that the code's types can hold, and every step keeps them.
use Rattle.std.specs.Prelude.{ℕ, zero, suc}
use Rattle.mersenne_twister.specs.declared.MersenneTwister as twister_type
use Rattle.mersenne_twister.specs.SizedParts as twister
use Rattle.pcg.specs.SizedParts as pcg
use Rattle.pcg.proofs.SizedParts as pcg_laws
use Rattle.xoshiro.specs.SizedParts as xoshiro
use Rattle.random.specs.declared.backend.Backend.{Backend}
use Rattle.random.specs.declared.backend.Backend.TheVariants.{Xoshiro256PlusPlus, MersenneTwister, Pcg32, Pcg64}
use Rattle.random.specs.declared.backend.Random.{Random}
use Rattle.random.specs.Generator.{step_by, step, later, rand_of}
use Rattle.random.specs.Promises.{RandPromise}
use Rattle.source.specs.declared.Drawn.{Drawn}

-- the small words of each kind
abbrev pub SizedSmall : Backend → Type 0
SizedSmall (Xoshiro256PlusPlus x) = xoshiro.Sized x
SizedSmall MersenneTwister = Unit
SizedSmall (Pcg32 p) = pcg.Sized32 p
SizedSmall (Pcg64 p) = pcg.Sized64 p

-- the small words of the kind, and table and position, which every kind has beside it
pub record Sized (g : Random) : Type 0 where
  pub small : SizedSmall g.backend
  pub beside : twister.Sized g.twister

sized_by : (b : Backend) (t : twister_type.MersenneTwister) → SizedSmall b → twister.Sized t → Sized (step_by b t)
sized_by (Xoshiro256PlusPlus x) t h l = record { small = xoshiro.sized_stepped x h; beside = l }
sized_by MersenneTwister t h l = record { small = tt; beside = twister.sized_drawn t l }
sized_by (Pcg32 p) t h l = record { small = pcg_laws.sized_stepped32 p h; beside = l }
sized_by (Pcg64 p) t h l = record { small = pcg_laws.sized_stepped64 p h; beside = l }

-- a step keeps them,
pub sized_step : (g : Random) → Sized g → Sized (step g)
unfolding step
sized_step g h = sized_by g.backend g.twister h.small h.beside

-- and so does every number of words: the next generator of every call that draws
pub sized_later : (n : ℕ) (g : Random) → Sized g → Sized (later n g)
unfolding later
sized_later zero g h = h
sized_later (suc n) g h = sized_step (later n g) (sized_later n g h)

-- ---- the code

-- a generator that a call was handed is sized, and so is the one that it hands back
pub record StaysSized (came next : Random) : Type 0 where
  pub before : Sized came
  pub after : Sized next

-- so it is of `rand`, by its promise
pub rand_sized : {r : Drawn ℕ Random} (g : Random) → RandPromise g r → Sized g → StaysSized g r.next
unfolding rand_of
rand_sized g p h = record { before = h; after = rw p (sized_step g h) }
