-- The kind's number is that of the kind by name.
use Rattle.std.specs.Prelude.{◌≡◌, refl}
use Rattle.random.specs.declared.backend.Backend.{Backend}
use Rattle.random.specs.declared.backend.Backend.TheVariants.{Xoshiro256PlusPlus, MersenneTwister, Pcg32, Pcg64}
use Rattle.random.specs.Kinds as kinds
use Rattle.parts.specs.Kind.{kind_of}

pub kind_number : (b : Backend) → kinds.number_of (kinds.kind_of b) ≡ kind_of b
kind_number (Xoshiro256PlusPlus x) = refl
kind_number MersenneTwister = refl
kind_number (Pcg32 p) = refl
kind_number (Pcg64 p) = refl
