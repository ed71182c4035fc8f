-- The kinds and their numbers (document 01, "The facade in random.rs"): 0 Xoshiro256PlusPlus, 1 MersenneTwister, 2 Pcg32, 3 Pcg64.
use Rattle.std.specs.Prelude.{◌≡◌, ℕ, ◌<◌, Result, Ok, Err}
use Rattle.random.specs.declared.backend.Backend.{Backend}
use Rattle.random.specs.declared.backend.Backend.TheVariants as backend
use Rattle.random.specs.declared.kind.Kind.{Kind}
use Rattle.random.specs.declared.kind.Kind.TheVariants as kind
use Rattle.random.specs.declared.kind.UnknownKind.{UnknownKind}

-- a kind's number
abbrev pub number_of : Kind → ℕ
number_of kind.Xoshiro256PlusPlus = 0
number_of kind.MersenneTwister = 1
number_of kind.Pcg32 = 2
number_of kind.Pcg64 = 3

-- what a number names: a kind, or none where it is above 3
abbrev pub Named : ℕ → Result Kind UnknownKind → Type 0
Named n (Ok k) = number_of k ≡ n
Named n (Err e) = (e.0 ≡ n) × (3 < n)

-- the kind of a generator's small words
abbrev pub kind_of : Backend → Kind
kind_of (backend.Xoshiro256PlusPlus x) = kind.Xoshiro256PlusPlus
kind_of backend.MersenneTwister = kind.MersenneTwister
kind_of (backend.Pcg32 p) = kind.Pcg32
kind_of (backend.Pcg64 p) = kind.Pcg64
