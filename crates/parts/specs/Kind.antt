-- A generator's kind and small words (document 01, "The facade in random.rs").
use Rattle.std.specs.Prelude.{ℕ}
use Rattle.random.specs.declared.backend.Backend.{Backend}
use Rattle.random.specs.declared.backend.Backend.TheVariants.{Xoshiro256PlusPlus, MersenneTwister, Pcg32, Pcg64}
use Rattle.parts.specs.declared.read_out.Small.{Small}

-- the kind's number
abbrev pub kind_of : Backend → ℕ
kind_of (Xoshiro256PlusPlus x) = 0
kind_of MersenneTwister = 1
kind_of (Pcg32 p) = 2
kind_of (Pcg64 p) = 3

-- four words, held together
abbrev pub small : (w0 w1 w2 w3 : ℕ) → Small
small w0 w1 w2 w3 = record { w0 = w0; w1 = w1; w2 = w2; w3 = w3 }

-- xoshiro's state; Pcg32's state and increment; Pcg64's, high word first; the rest are zeros
abbrev pub small_words : Backend → Small
small_words (Xoshiro256PlusPlus x) = small x.s0 x.s1 x.s2 x.s3
small_words MersenneTwister = small 0 0 0 0
small_words (Pcg32 p) = small p.state p.inc 0 0
small_words (Pcg64 p) = small p.state.high p.state.low p.inc.high p.inc.low
