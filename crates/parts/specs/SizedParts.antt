-- A position set, a twist and a split keep a generator's parts sized, parent and child.
use Rattle.std.specs.Prelude.{ℕ}
use Rattle.mersenne_twister.specs.declared.MersenneTwister as twister_type
use Rattle.mersenne_twister.specs.SizedParts as twister
use Rattle.mersenne_twister.specs.Table.{held}
use Rattle.xoshiro.specs.SizedParts as xoshiro
use Rattle.random.specs.SizedParts.{SizedSmall, Sized}
use Rattle.random.specs.declared.backend.Backend.{Backend}
use Rattle.random.specs.declared.backend.Backend.TheVariants.{Xoshiro256PlusPlus, MersenneTwister, Pcg32, Pcg64}
use Rattle.random.specs.declared.backend.Random.{Random}
use Rattle.making.proofs.SizedParts.{zero_generator_lem}
use Rattle.parts.specs.Position.{stored_by, stored_at, twisted_by, twisted}
use Rattle.parts.specs.Splitting.{split_by, split_of}

-- a position that is set
pub sized_stored : (g : Random) (value : ℕ) → Sized g → Sized (stored_at g value)
sized_stored g value h = record { small = h.small; beside = by g.backend g.twister h.beside }
  where
    by : (b : Backend) (t : twister_type.MersenneTwister) → twister.Sized t → twister.Sized (held t.mt (stored_by b t.mti value))
    by (Xoshiro256PlusPlus x) t l = l
    by MersenneTwister t l = twister.sized_stored t.mt value l.table
    by (Pcg32 p) t l = l
    by (Pcg64 p) t l = l

-- a twist
pub sized_twisted : (g : Random) → Sized g → Sized (twisted g)
unfolding twisted
sized_twisted g h = record { small = h.small; beside = by g.backend g.twister h.beside }
  where
    by : (b : Backend) (t : twister_type.MersenneTwister) → twister.Sized t → twister.Sized (twisted_by b t)
    by (Xoshiro256PlusPlus x) t l = l
    by MersenneTwister t l = twister.sized_twisted t.mt l.table
    by (Pcg32 p) t l = l
    by (Pcg64 p) t l = l

-- a split: parent and child, refused too
pub sized_split : (g : Random) → Sized g → Sized (split_of g).parent × Sized (split_of g).child
unfolding split_of
sized_split g h = by g.backend h.small
  where
    by : (b : Backend) → SizedSmall b → Sized (split_by b g).parent × Sized (split_by b g).child
    by (Xoshiro256PlusPlus x) s = (record { small = xoshiro.sized_jumped x s; beside = h.beside }, h)
    by MersenneTwister s = (h, zero_generator_lem)
    by (Pcg32 p) s = (h, zero_generator_lem)
    by (Pcg64 p) s = (h, zero_generator_lem)
