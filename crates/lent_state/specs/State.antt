-- The lent state: kind, position, four small words. The generator that it stands for beside a table, and a generator written to it. What a
-- kind does not use stays as it came: the small words that it has not, and the position, of which the twister alone has use.
use Rattle.std.specs.Prelude.{ℕ, ◌%◌, ◌^◌, cond, List, [], ◌∷◌, eqb, leb, get_or}
use Rattle.words.specs.Refusal as refusal
use Rattle.pcg.specs.Pcg32 as pcg32
use Rattle.pcg.specs.Pcg64 as pcg64
use Rattle.pcg.specs.declared.pcg32.Pcg32 as pcg32_type
use Rattle.pcg.specs.declared.pcg64.Pcg64 as pcg64_type
use Rattle.xoshiro.specs.Generator as xoshiro
use Rattle.xoshiro.specs.declared.Xoshiro256PlusPlus as xoshiro_type
use Rattle.random.specs.Lent.{joined_with, engine_with}
use Rattle.random.specs.declared.backend.Backend.{Backend}
use Rattle.random.specs.declared.backend.Backend.TheVariants.{Xoshiro256PlusPlus, MersenneTwister, Pcg32, Pcg64}
use Rattle.random.specs.declared.backend.Random.{Random}
use Rattle.random.specs.declared.engine.Engine.{Engine}
use Rattle.lent_state.specs.declared.reading.Held as code
use Rattle.words.specs.Numbers.{refusal_in}

-- ---- what a state says

-- the kind's number
abbrev pub kind_in : List ℕ → ℕ
kind_in s = get_or s 0 0

-- the twister's position
abbrev pub position_in : List ℕ → ℕ
position_in s = get_or s 1 0 % 2 ^ 32

-- the generator of kind 0 that has these small words,
abbrev pub xoshiro_in : List ℕ → xoshiro_type.Xoshiro256PlusPlus
xoshiro_in s = xoshiro.parts (get_or s 2 0) (get_or s 3 0) (get_or s 4 0) (get_or s 5 0)

-- that of kind 2,
abbrev pub pcg32_in : List ℕ → pcg32_type.Pcg32
pcg32_in s = pcg32.parts (get_or s 2 0) (get_or s 3 0)

-- and that of kind 3
abbrev pub pcg64_in : List ℕ → pcg64_type.Pcg64
pcg64_in s = pcg64.parts (record { high = get_or s 2 0; low = get_or s 3 0 }) (record { high = get_or s 4 0; low = get_or s 5 0 })

-- the kind with its words; of a kind above 3 that of a refused making, kind 0 with four zero words (document 01)
unfoldable pub backend_in : List ℕ → Backend
backend_in s =
    cond (eqb (get_or s 0 0) 0) (Xoshiro256PlusPlus (xoshiro_in s))
    (cond (eqb (get_or s 0 0) 1) MersenneTwister
    (cond (eqb (get_or s 0 0) 2) (Pcg32 (pcg32_in s))
    (cond (eqb (get_or s 0 0) 3) (Pcg64 (pcg64_in s)) (Xoshiro256PlusPlus (xoshiro.parts 0 0 0 0)))))

-- all of a generator but its table
abbrev pub engine_from : List ℕ → Engine
engine_from s = engine_with (backend_in s) (position_in s)

-- a kind above 3 is refused with 10
unfoldable pub kind_refusal : ℕ → ℕ
kind_refusal kind = cond (leb kind 3) refusal.answered refusal.kind

-- What a state holds, in document 01's numbers: the refusal's, 0 where there is none, and the engine.
pub record Held : Type 0 where
  pub refusal : ℕ
  pub engine : Engine

-- as the code tells it
abbrev pub held_numbers : code.Held → Held
held_numbers h = record { refusal = refusal_in h.refusal; engine = h.engine }

-- the engine, and whether its kind is known
abbrev pub held_in : List ℕ → Held
held_in s = record { refusal = kind_refusal (get_or s 0 0); engine = engine_from s }

-- THE GENERATOR that was lent: of a state and a table
abbrev pub generator_in : List ℕ → List ℕ → Random
generator_in s t = joined_with (engine_from s) t

-- ---- a generator written to a state

-- a state of six words
abbrev pub six : (a b c d e f : ℕ) → List ℕ
six a b c d e f = a ∷ b ∷ c ∷ d ∷ e ∷ f ∷ []

-- other small words, or another position, in a state
abbrev pub small_state : List ℕ → (a b c d : ℕ) → List ℕ
small_state s a b c d = six (get_or s 0 0) (get_or s 1 0) a b c d

-- another position in a state
abbrev pub position_state : List ℕ → ℕ → List ℕ
position_state s p = six (get_or s 0 0) p (get_or s 2 0) (get_or s 3 0) (get_or s 4 0) (get_or s 5 0)

-- by the kind
abbrev pub state_by : Backend → ℕ → List ℕ → List ℕ
state_by (Xoshiro256PlusPlus x) mti s = six 0 (get_or s 1 0) x.s0 x.s1 x.s2 x.s3
state_by MersenneTwister mti s = six 1 mti (get_or s 2 0) (get_or s 3 0) (get_or s 4 0) (get_or s 5 0)
state_by (Pcg32 p) mti s = six 2 (get_or s 1 0) p.state p.inc (get_or s 4 0) (get_or s 5 0)
state_by (Pcg64 p) mti s = six 3 (get_or s 1 0) p.state.high p.state.low p.inc.high p.inc.low

-- an engine written to a state
unfoldable pub state_with : Engine → List ℕ → List ℕ
state_with e s = state_by e.backend e.mti s

-- where the call is answered; a refused call changes nothing
unfoldable pub state_after : ℕ → Engine → List ℕ → List ℕ
state_after refused e s = cond (eqb refused refusal.answered) (state_with e s) s

-- a state made anew: what the kind does not use is zeros
abbrev pub state_of : Engine → List ℕ
state_of e = state_with e (six 0 0 0 0 0 0)
