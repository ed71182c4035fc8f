-- `next_u64` meets its contract, kind by kind.
use Rattle.std.specs.Prelude.{ℕ}
use mathlib.Core.Path.{ap}
use Rattle.source.specs.declared.Drawn.{Drawn}
use Rattle.mersenne_twister.specs.Table as twister
use Rattle.mersenne_twister.specs.declared.MersenneTwister as twister_type
use Rattle.random.specs.Generator.{gen, u64_of, word64_of, later, step}
use Rattle.random.specs.declared.backend.Backend.TheVariants.{MersenneTwister}
use Rattle.random.proofs.lent.next_u64.Goals as goal
use Rattle.random.specs.declared.backend.Random.{Random}

-- the twister's draw, as the facade's
abbrev as_word64 : Drawn ℕ twister_type.MersenneTwister → Drawn ℕ Random
as_word64 d = record { word = d.word; next = gen MersenneTwister d.next }

pub returns-in-Xoshiro256PlusPlus : goal.returns-in-Xoshiro256PlusPlus
unfolding u64_of word64_of later step
returns-in-Xoshiro256PlusPlus c = rw (c.in-Xoshiro256PlusPlus.is, c.answer.ensures, c.next_u64-d.ensures)

pub returns-in-MersenneTwister : goal.returns-in-MersenneTwister
unfolding u64_of word64_of later step twister.drawn64
returns-in-MersenneTwister c =
    let is = c.in-MersenneTwister.is in
    rw (is, c.answer-in-MersenneTwister.ensures) (ap as_word64 c.next_u64_in-s.ensures)

pub returns-in-Pcg32 : goal.returns-in-Pcg32
unfolding u64_of word64_of later step
returns-in-Pcg32 c = rw (c.in-Pcg32.is, c.answer-in-Pcg32.ensures, c.next_u64-d-in-Pcg32.ensures)

pub returns-in-Pcg64 : goal.returns-in-Pcg64
unfolding u64_of word64_of later step
returns-in-Pcg64 c = rw (c.in-Pcg64.is, c.answer-in-Pcg64.ensures, c.next_u64-d-in-Pcg64.ensures)
