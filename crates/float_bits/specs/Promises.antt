-- What each public call promises of its answer: the contracts of src/, by name.
use Rattle.std.specs.Prelude.{◌≡◌, ℕ, Float}
use Rattle.float_bits.specs.Patterns.{number_of, pattern_of}

abbrev pub PatternOfPromise : Float → ℕ → Type 0
PatternOfPromise x r = r ≡ pattern_of x

abbrev pub NumberOfPromise : ℕ → Float → Type 0
NumberOfPromise pattern r = r ≡ number_of pattern
