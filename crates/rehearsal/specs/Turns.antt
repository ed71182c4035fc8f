-- A turn: the next words of a generator, at most so many as a block holds, and the values that they settle in it.
use Rattle.std.specs.Prelude.{Bool, List, ◌++◌, ◌≡◌, ℕ, ◌+◌, ◌-◌, min, length, drop}
use Rattle.random.specs.declared.backend.Random.{Random}
use Rattle.random.specs.Generator.{later, words_of}
use Rattle.random.specs.Lent.{joined_with}
use Rattle.ahead.specs.Ahead.{first_words}
use Rattle.rehearsal.specs.Bounds.{bound_after}
use Rattle.rehearsal.specs.Values.{values_after, settled_after}
use Rattle.rehearsal.specs.declared.turns.Draws.{Draws}
use Rattle.rehearsal.specs.declared.turns.Turn.{Turn}

-- The values vs that n words of the sequence s settled, in front of those words from the one after them on.
abbrev pub values_in_front : List ℕ → (ℕ → ℕ) → ℕ → List ℕ
values_in_front vs s n = vs ++ drop (length vs) (first_words s n)

-- n words of the generator g, which became h, settled so many draws below r and so on, and a list of n entries has their values in front.
pub record SettledWords (g : Random) (r : ℕ) (falls : Bool) (n : ℕ) (h : Random) (count : ℕ) (list : List ℕ) : Type 0 where
  pub moved : h ≡ later n g
  pub counted : count ≡ settled_after (words_of g) r falls n
  pub holds : list ≡ values_in_front (values_after (words_of g) r falls n) (words_of g) n

-- How many words a turn takes: no more than draws are left, than the budget allows, or than the block holds.
abbrev pub words_taken : Draws → Turn → ℕ → ℕ
words_taken d t block = min (min (d.count - t.settled) (d.budget - t.used)) block

-- The values that they settle, from the bound where the draws stand.
abbrev pub values_taken : Draws → Turn → (ℕ → ℕ) → ℕ → List ℕ
values_taken d t s n = values_after s (bound_after d.falls d.first t.settled) d.falls n

-- What a turn leaves, with n words and the values vs.
pub record Turned (d : Draws) (t : Turn) (mt block : List ℕ) (n : ℕ) (vs : List ℕ) (t' : Turn) (mt' block' : List ℕ) : Type 0 where
  pub moved : joined_with t'.next mt' ≡ later n (joined_with t.next mt)
  pub used : t'.used ≡ t.used + n
  pub settled : t'.settled ≡ t.settled + length vs
  pub holds : block' ≡ values_in_front vs (words_of (joined_with t.next mt)) n ++ drop n block
