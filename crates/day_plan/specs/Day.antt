-- The plan of a day over any sequence of words (the order: "It draws at random which inlet opens next and where blanks go"; "each inlet to
-- have exactly its share"). A day is a list of slots: a blank is 0, and the inlets are 1, 2, ..
use Rattle.std.specs.Prelude.{cond, List, [], ◌∷◌, ◌++◌, ℕ, zero, suc, ◌+◌, ◌-◌, min, eqb, length, replicate}
use Rattle.words.specs.Refusal.{answered}
use Rattle.words.specs.Draw.{Words}
use Rattle.shuffle.specs.Shuffle.{shuffle_by, shuffled}

-- a slot in which no inlet opens
abbrev pub blank : ℕ
blank = 0

-- so many inlets, one after the other, the first of them k
unfoldable pub inlets_from : ℕ → ℕ → List ℕ
inlets_from k zero = []
inlets_from k (suc n) = k ∷ inlets_from (k + 1) n

-- A DAY of n slots LAID OUT: the blanks, and then every inlet once. Where there are more blanks than slots, every slot is a blank.
unfoldable pub laid_out : ℕ → ℕ → List ℕ
laid_out blanks n = replicate (min blanks n) blank ++ inlets_from 1 (n - blanks)

-- THE PLAN: the day laid out and shuffled, where the shuffle of so many slots is answered; refused, the list keeps its contents.
unfoldable pub planned_day : Words → ℕ → List ℕ → ℕ → List ℕ
planned_day s blanks l budget =
    cond (eqb (shuffle_by s (length l) budget).refusal answered) (shuffled s (laid_out blanks (length l)) budget) l
