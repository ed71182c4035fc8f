-- "A shuffle obeys this draw after draw under one budget" (the order, demand 3), place by place: the place i draws below i + 1, from the
-- word just past those of the places above it and with the budget that they left, and draws no place above i.
use Rattle.std.specs.Prelude.{◌≡◌, true, List, ◌∷◌, ◌++◌, ℕ, suc, ◌+◌, ◌-◌, ◌≤◌, ◌<◌, length, get_or}
use Rattle.std.proofs.Common.{◌∙◌, ap, arith}
use Rattle.words.specs.Draw.{Words, all}
use Rattle.words.specs.EachInTurn.{InTurn}
use Rattle.words.proofs.EachInTurn.{each_in_turn}
use Rattle.words.specs.BelowItsBound.{WordSized}
use Rattle.words.proofs.BelowItsBound.{draws_below_lem}
use Rattle.words.proofs.SettledNeverFalls.{as_many_values}
use Rattle.random.specs.declared.backend.Random.{Random}
use Rattle.random.specs.Generator.{words_of}
use Rattle.random.specs.Sizes.{words_sized}
use Rattle.rehearsal.specs.Bounds.{bounds_from}
use Rattle.rehearsal.specs.BoundsLaws.{bounds_length, bound_at, bounds_split}
use Rattle.shuffle.specs.Shuffle.{places_drawn}

module _ (s : Words) (n budget : ℕ) {places : List ℕ} {used : ℕ} (e : places_drawn s n budget ≡ all places used) where
  -- as many places as draw
  pub as_many_places : length places ≡ n - 1
  as_many_places = as_many_values s (bounds_from n true (n - 1)) budget e ∙ bounds_length n true (n - 1)

  module _ (i : ℕ) (some : 0 < i) (inside : i < n) where
    -- the draw of place i comes after those of the n - 1 - i places above it
    pub place_in_turn : InTurn s (bounds_from n true (n - 1 - i)) (i + 1) budget places
    place_in_turn =
        let count : n - 1 ≡ n - 1 - i + suc (i - 1) = omega arith in
        let bound : n - (n - 1 - i) ≡ i + 1 = omega arith in
        let next : n - (n - 1 - i + 1) ≡ i = omega arith in
        let split : bounds_from n true (n - 1) ≡ bounds_from n true (n - 1 - i) ++ ((i + 1) ∷ bounds_from i true (i - 1)) =
        ap (bounds_from n true) count ∙ bounds_split n true (n - 1 - i) (i - 1) ∙ rw (bound, next) in
        each_in_turn s (bounds_from n true (n - 1 - i)) (i + 1) (bounds_from i true (i - 1)) budget (rw split at e)

    -- and it draws no place above i, where the words have 32 bits
    pub place_at_most : WordSized s → get_or places (n - 1 - i) 0 ≤ i
    place_at_most sized =
        let below =
        (draws_below_lem s (bounds_from n true (n - 1)) budget sized e).below (n - 1 - i)
        (rw (bounds_length n true (n - 1)) (omega arith)) in
        omega (arith, below, bound_at n true (n - 1) (n - 1 - i) (omega arith))

-- of every generator, since its words have 32 bits
pub place_drawn_at_most : (g : Random) (n budget : ℕ) {places : List ℕ} {used : ℕ} → places_drawn (words_of g) n budget ≡ all places used
    → (i : ℕ) → 0 < i → i < n → get_or places (n - 1 - i) 0 ≤ i
place_drawn_at_most g n budget e i some inside = place_at_most (words_of g) n budget e i some inside (words_sized g)
