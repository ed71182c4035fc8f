-- Where draws from a generator stand after some of its words: with one law for a word more, and what a rehearsal says at the end.
use Rattle.std.specs.Prelude.{◌≡◌, Bool, true, false, ◌⊎◌, ℕ, ◌+◌, ◌≤◌, ◌<◌, length, Some, None}
use Rattle.std.proofs.Common.{sym, ◌∙◌, ap, inl, inr, arith}
use Rattle.words.specs.Draw.{Words, good}
use Rattle.random.specs.declared.backend.Random.{Random}
use Rattle.random.specs.Generator.{word_of, words_of, step, later}
use Rattle.random.specs.GeneratorLaws.{later_none, later_one, word_at}
use Rattle.rehearsal.specs.Bounds.{bound_after}
use Rattle.rehearsal.specs.BoundsLaws.{bound_none, bound_more}
use Rattle.rehearsal.specs.Values.{settled_after, bound_left}
use Rattle.rehearsal.specs.ValuesLaws.{values_none, settled_good, values_bad}
use Rattle.rehearsal.specs.Rehearsal.{draws_of, tell, rehearsed_of}
use Rattle.rehearsal.specs.Rehearsing.{Rehearsing, rehearsing_start, rehearsing_on, rehearsing_done, rehearsing_out}
use Rattle.rehearsal.specs.declared.turns.Draws.{Draws}

-- The draws d from the generator g after n words: they settled k draws, and the generator is now cur.
pub record Standing (g : Random) (d : Draws) (n k : ℕ) (cur : Random) : Type 0 where
  pub moved : cur ≡ later n g
  pub settled : k ≡ settled_after (words_of g) d.first d.falls n
  pub rehearsing : Rehearsing (words_of g) d.first d.falls d.count d.budget n

-- Before the first word no draw is settled.
pub standing_start : (d : Draws) (g : Random) → Standing g d 0 0 g
standing_start d g = record {
  moved = sym (later_none g);
  settled = sym (ap length (values_none (words_of g) d.first d.falls));
  rehearsing = rehearsing_start (words_of g) d.first d.falls d.count d.budget;
}

-- ---- what a rehearsal says at its end

module _ {g cur : Random} {d : Draws} {n k : ℕ} (h : Standing g d n k cur) where
  -- All draws are settled,
  pub standing_all : d.count ≤ k → tell (Some n) k ≡ rehearsed_of (draws_of (words_of g) d)
  standing_all m =
      let settled = h.settled in
      rw (rehearsing_done (words_of g) d.first d.falls d.count d.budget n h.rehearsing (omega arith), settled)

  -- or the budget is used up.
  pub standing_short : k < d.count → d.budget ≤ n → tell None k ≡ rehearsed_of (draws_of (words_of g) d)
  standing_short m out =
      let settled = h.settled in
      rw (rehearsing_out (words_of g) d.first d.falls d.count d.budget n h.rehearsing (omega arith) out, settled)

-- ---- one word after the other

-- The same, where code keeps the bound b of the next draw.
pub record Looking (g : Random) (d : Draws) (n k b : ℕ) (cur : Random) : Type 0 where
  pub standing : Standing g d n k cur
  pub bound : b ≡ bound_after d.falls d.first k

-- Before the first word it is the first one.
pub looking_start : (d : Draws) (g : Random) → Looking g d 0 0 d.first g
looking_start d g = record { standing = standing_start d g; bound = sym (bound_none d.falls d.first) }

-- The generator g gives the word w, and becomes h.
pub record NextWord (g : Random) (w : ℕ) (h : Random) : Type 0 where
  pub word : w ≡ word_of g
  pub moved : h ≡ step g

-- What the word w makes of k draws and the bound b: one draw more and the bound after b where it is good, and the same where it is not.
abbrev pub LookedAt : Bool → ℕ → ℕ → ℕ → ℕ → ℕ → Type 0
LookedAt falls w k b k' b' = ((good b w ≡ true) × (k' ≡ k + 1) × (b' ≡ bound_after falls b 1)) ⊎ ((good b w ≡ false) × (k' ≡ k) × (b' ≡ b))

module _ {g cur : Random} {d : Draws} {n k b : ℕ} (h : Looking g d n k b cur) where
  -- the words of the generator at the start
  abbrev s : Words
  s = words_of g

  -- Where a draw is left and the budget allows a word, the next word leaves the draws where looking at it does.
  pub looking_on : {w k' b' : ℕ} {cur' : Random} → k < d.count → n < d.budget → NextWord cur w cur' → LookedAt d.falls w k b k' b'
      → Looking g d (n + 1) k' b' cur'
  looking_on {w} {k'} {b'} {cur'} more left next looked = go looked
    where
      word : w ≡ s n
      word = next.word ∙ ap word_of h.standing.moved ∙ word_at n g

      here : {b₀ : Bool} → good b w ≡ b₀ → good (bound_left s d.first d.falls n) (s n) ≡ b₀
      here e = ap (λ (x : ℕ). good x (s n)) (sym (h.bound ∙ ap (bound_after d.falls d.first) h.standing.settled))
          ∙ ap (good b) (sym word) ∙ e

      stands : k' ≡ settled_after s d.first d.falls (n + 1) → Standing g d (n + 1) k' cur'
      stands e =
          let settled = h.standing.settled in
          record {
            moved = next.moved ∙ ap step h.standing.moved ∙ sym (later_one n g);
            settled = e;
            rehearsing =
                rehearsing_on s d.first d.falls d.count d.budget n 1 h.standing.rehearsing (omega arith) (omega arith);
          }

      go : LookedAt d.falls w k b k' b' → Looking g d (n + 1) k' b' cur'
      go (inl (e, one, after)) = record {
        standing = stands (one ∙ ap (λ (x : ℕ). x + 1) h.standing.settled ∙ sym (settled_good s d.first d.falls n (here e)));
        bound = after ∙ ap (λ (x : ℕ). bound_after d.falls x 1) h.bound ∙ bound_more d.falls d.first k 1
            ∙ ap (bound_after d.falls d.first) (sym one);
      }
      go (inr (e, none, same)) = record {
        standing = stands (none ∙ h.standing.settled ∙ sym (ap length (values_bad s d.first d.falls n (here e))));
        bound = same ∙ h.bound ∙ ap (bound_after d.falls d.first) (sym none);
      }
