-- The words of state and increment have 64 bits, as the code's have: a generator that is seeded has such words, and a step keeps them.
use Rattle.std.specs.Prelude.{◌^◌, ◌<◌}
use Rattle.wrapping.specs.Wide.{SizedWide}
use Rattle.pcg.specs.declared.pcg32.Pcg32.{Pcg32}
use Rattle.pcg.specs.declared.pcg64.Pcg64.{Pcg64}

-- state and increment have 64 bits
pub record Sized32 (g : Pcg32) : Type 0 where
  pub state : g.state < 2 ^ 64
  pub inc : g.inc < 2 ^ 64

-- state and increment have two words of 64 bits each
pub record Sized64 (g : Pcg64) : Type 0 where
  pub state : SizedWide g.state
  pub inc : SizedWide g.inc
