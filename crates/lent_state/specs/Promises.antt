-- What reading and writing a lent state promise. The contracts of src/, by name.
use Rattle.std.specs.Prelude.{ℕ, List, ◌≡◌}
use Rattle.pcg.specs.declared.pcg32.Pcg32.{Pcg32}
use Rattle.pcg.specs.declared.pcg64.Pcg64.{Pcg64}
use Rattle.xoshiro.specs.declared.Xoshiro256PlusPlus.{Xoshiro256PlusPlus}
use Rattle.random.specs.declared.backend.Random.{Random}
use Rattle.random.specs.declared.engine.Engine.{Engine}
use Rattle.lent_state.specs.State.{Held}
use Rattle.lent_state.specs.Answers.{told}
use Rattle.lent_state.specs.Placing.{placed}
use Rattle.lent_state.specs.State.{position_in, xoshiro_in, pcg32_in, pcg64_in, held_in}
use Rattle.lent_state.specs.State.{small_state, position_state, state_with, state_after, state_of}

-- ---- reading

-- the twister's position
abbrev pub PositionPromise : List ℕ → ℕ → Type 0
PositionPromise s r = r ≡ position_in s

-- the small words read as those of kind 0,
abbrev pub XoshiroInPromise : List ℕ → Xoshiro256PlusPlus → Type 0
XoshiroInPromise s r = r ≡ xoshiro_in s

-- of kind 2,
abbrev pub Pcg32InPromise : List ℕ → Pcg32 → Type 0
Pcg32InPromise s r = r ≡ pcg32_in s

-- and of kind 3
abbrev pub Pcg64InPromise : List ℕ → Pcg64 → Type 0
Pcg64InPromise s r = r ≡ pcg64_in s

-- the engine that a state stands for; a kind above 3 is refused
abbrev pub HeldInPromise : List ℕ → Held → Type 0
HeldInPromise s r = r ≡ held_in s

-- ---- writing

-- other small words
abbrev pub PutSmallPromise : List ℕ → (a b c d : ℕ) → List ℕ → Type 0
PutSmallPromise s a b c d s' = s' ≡ small_state s a b c d

-- another position
abbrev pub PutPositionPromise : List ℕ → ℕ → List ℕ → Type 0
PutPositionPromise s mti s' = s' ≡ position_state s mti

-- an engine written to a state: what its kind does not use stays
abbrev pub WritePromise : Engine → List ℕ → List ℕ → Type 0
WritePromise e s s' = s' ≡ state_with e s

-- an engine written where the call is answered
abbrev pub LentSettlePromise : ℕ → Engine → List ℕ → List ℕ → Type 0
LentSettlePromise refused e s s' = s' ≡ state_after refused e s

-- an engine in a state that is made anew
abbrev pub LentBeginPromise : Engine → List ℕ → Type 0
LentBeginPromise e s' = s' ≡ state_of e

-- a generator that was made in the state and the table, or nothing where the making was refused
abbrev pub LentPlacePromise : (refused : ℕ) → Random → List ℕ → List ℕ → ℕ → List ℕ → List ℕ → Type 0
LentPlacePromise refused g s t r s' t' = told r s' t' ≡ placed s t refused g
