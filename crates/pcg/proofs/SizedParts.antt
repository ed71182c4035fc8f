-- The words of state and increment have 64 bits, as the code's have: a generator that is seeded has such words, and a step keeps them.
use Rattle.std.specs.Prelude.{ℕ}
use Rattle.std.proofs.Common.{mod-lt, lit<}
use Rattle.wrapping.specs.WideLaws.{sized_wide}
use Rattle.pcg.specs.declared.pcg32.Pcg32.{Pcg32}
use Rattle.pcg.specs.declared.pcg64.Pcg64.{Pcg64}
use Rattle.pcg.specs.Lcg.{seeded_state}
use Rattle.pcg.specs.Pcg32 as pcg32
use Rattle.pcg.specs.Pcg64 as pcg64
use Rattle.pcg.proofs.StreamLaws.{increment_fits}
use Rattle.pcg.specs.SizedParts.{Sized32, Sized64}

-- ---- Pcg32

-- a step keeps them
pub sized_stepped32 : (g : Pcg32) → Sized32 g → Sized32 (pcg32.stepped g)
sized_stepped32 g h = record { state = mod-lt _ (lit< tt); inc = h.inc }

-- the generator of a seed number and a stream, whatever numbers they are
pub sized_seeded32 : (seed stream : ℕ) → Sized32 (pcg32.seeded seed stream)
unfolding seeded_state
sized_seeded32 seed stream = record { state = mod-lt _ (lit< tt); inc = increment_fits 63 stream }

-- ---- Pcg64

-- a step keeps them
pub sized_stepped64 : (g : Pcg64) → Sized64 g → Sized64 (pcg64.stepped g)
sized_stepped64 g h = record { state = sized_wide _ (mod-lt _ (lit< tt)); inc = h.inc }

-- the generator of a seed number and a stream, whatever numbers they are
pub sized_seeded64 : (seed stream : ℕ) → Sized64 (pcg64.seeded seed stream)
unfolding seeded_state
sized_seeded64 seed stream = record { state = sized_wide _ (mod-lt _ (lit< tt)); inc = sized_wide _ (increment_fits 127 stream) }
