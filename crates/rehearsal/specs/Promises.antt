-- What each public call promises of its answer and of what it is lent: the contracts of src/, by name.
use Rattle.std.specs.Prelude.{Bool, List, ◌++◌, ◌≡◌, ℕ, length, drop}
use Rattle.words.specs.Draw.{listed}
use Rattle.random.specs.Generator.{words_of}
use Rattle.random.specs.Lent.{joined_with}
use Rattle.random.specs.declared.engine.Engine.{Engine}
use Rattle.rehearsal.specs.Values.{values_after, settled_after}
use Rattle.rehearsal.specs.Rehearsal.{draws_of, rehearsed_of}
use Rattle.rehearsal.specs.Turns.{words_taken, values_taken, Turned}
use Rattle.rehearsal.specs.declared.rehearsing.Rehearsed.{Rehearsed}
use Rattle.rehearsal.specs.declared.turns.Draws.{Draws}
use Rattle.rehearsal.specs.declared.turns.Turn.{Turn}

-- The values that the words of the list settle stand in front, and then what was there.
abbrev pub SettlePromise : List ℕ → ℕ → Bool → ℕ → List ℕ → Type 0
SettlePromise list r falls n list' =
    (n ≡ settled_after (listed list) r falls (length list))
    × (list' ≡ values_after (listed list) r falls (length list) ++ drop (settled_after (listed list) r falls (length list)) list)

-- A turn: the words that it takes of the generator, and the values that they settle in front of the block.
abbrev pub TakeTurnPromise : Draws → Turn → List ℕ → List ℕ → Turn → List ℕ → List ℕ → Type 0
TakeTurnPromise d t mt block t' mt' block' =
    Turned d t mt block (words_taken d t (length block))
    (values_taken d t (words_of (joined_with t.next mt)) (words_taken d t (length block))) t' mt' block'

-- What the draws come to with the generator's words.
abbrev pub RehearsePromise : Draws → Engine → List ℕ → Rehearsed → Type 0
RehearsePromise d e mt r = r ≡ rehearsed_of (draws_of (words_of (joined_with e mt)) d)

-- The table stays.
abbrev pub RehearseTablePromise : List ℕ → List ℕ → Type 0
RehearseTablePromise mt mt' = mt' ≡ mt
