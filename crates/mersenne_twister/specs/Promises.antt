-- What each public call promises of its answer: the contracts of src/, by name.
use Rattle.std.specs.Prelude.{◌≡◌, ℕ, List}
use Rattle.mersenne_twister.specs.Sequence.{temper}
use Rattle.mersenne_twister.specs.Table.{drawn, drawn64, drawn64_in, drawn_in, folded, held, seeded, seeded_in, stepped}
use Rattle.mersenne_twister.specs.Table.{stored_position, twisted, twisted_in}
use Rattle.source.specs.declared.Drawn.{Drawn}
use Rattle.mersenne_twister.specs.declared.MersenneTwister.{MersenneTwister}
use Rattle.mersenne_twister.specs.declared.table.Step.{Step}

-- `MersenneTwister::from_u32_seed`: the generator of the seed
abbrev pub TwisterFromU32SeedPromise : ℕ → MersenneTwister → Type 0
TwisterFromU32SeedPromise seed r = r ≡ seeded seed

-- `MersenneTwister::from_seed`: the generator of the number that the bytes come to
abbrev pub TwisterFromSeedPromise : List ℕ → MersenneTwister → Type 0
TwisterFromSeedPromise seed r = r ≡ seeded (folded seed)

-- `MersenneTwister::seed`: the generator of the seed, whatever it was before
abbrev pub TwisterSeedPromise : ℕ → MersenneTwister → Type 0
TwisterSeedPromise seed r = r ≡ seeded seed

-- `MersenneTwister::from_parts`: this table and this position, any one
abbrev pub TwisterFromPartsPromise : List ℕ → ℕ → MersenneTwister → Type 0
TwisterFromPartsPromise mt mti r = r ≡ held mt mti

-- `MersenneTwister::rand`: one draw
abbrev pub TwisterRandPromise : MersenneTwister → Drawn ℕ MersenneTwister → Type 0
TwisterRandPromise self r = r ≡ drawn self

-- `MersenneTwister::next_u64`: two draws as one word, the high word first
abbrev pub TwisterNextU64Promise : MersenneTwister → Drawn ℕ MersenneTwister → Type 0
TwisterNextU64Promise self r = r ≡ drawn64 self

-- `MersenneTwister::twist`: the table twisted, the position 0
abbrev pub TwisterTwistPromise : MersenneTwister → MersenneTwister → Type 0
TwisterTwistPromise self r = r ≡ twisted self

-- `MersenneTwister::mti`: the position
abbrev pub TwisterMtiPromise : MersenneTwister → ℕ → Type 0
TwisterMtiPromise self r = r ≡ self.mti

-- `MersenneTwister::set_mti`: the same table, the position stored
abbrev pub TwisterSetMtiPromise : MersenneTwister → ℕ → MersenneTwister → Type 0
TwisterSetMtiPromise self value r = r ≡ held self.mt (stored_position value)

-- `stored_position`: at most 624
abbrev pub StoredPositionPromise : ℕ → ℕ → Type 0
StoredPositionPromise value r = r ≡ stored_position value

-- `seed_in`: the lent table and the answer are the generator seeded in place
abbrev pub SeedInPromise : List ℕ → ℕ → ℕ → List ℕ → Type 0
SeedInPromise mt seed r mt' = held mt' r ≡ seeded_in mt seed

-- `from_seed_in`: seeded in place with the number that the bytes come to
abbrev pub FromSeedInPromise : List ℕ → List ℕ → ℕ → List ℕ → Type 0
FromSeedInPromise mt seed r mt' = held mt' r ≡ seeded_in mt (folded seed)

-- `twist_in`: the lent table is twisted, and the answer is the position 0
abbrev pub TwistInPromise : List ℕ → ℕ → List ℕ → Type 0
TwistInPromise mt r mt' = held mt' r ≡ twisted_in mt

-- `rand_in`: the answer and the lent table are what a draw gives and leaves
abbrev pub RandInPromise : List ℕ → ℕ → Step ℕ → List ℕ → Type 0
RandInPromise mt mti r mt' = stepped r mt' ≡ drawn_in mt mti

-- `next_u64_in`: the same of two words as one
abbrev pub NextU64InPromise : List ℕ → ℕ → Step ℕ → List ℕ → Type 0
NextU64InPromise mt mti r mt' = stepped r mt' ≡ drawn64_in mt mti

-- `temper_word`: the paper's tempering
abbrev pub TemperWordPromise : ℕ → ℕ → Type 0
TemperWordPromise x r = r ≡ temper x
