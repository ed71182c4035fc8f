-- The loop of swaps, turn after turn, and what it comes to; and that it is the shuffle where the shuffle is answered.
use Rattle.std.specs.Prelude.{◌≡◌, true, List, ℕ, ◌-◌, ◌≤◌, ◌<◌, length, take}
use Rattle.std.proofs.Common.{sym, ◌∙◌, ap, append_assoc, arith, lt-ltb, le-ltb, length-append}
use Rattle.std.proofs.Math.Seq.{take-append_seam}
use Rattle.words.specs.Draw.{Words, all}
use Rattle.random.specs.declared.backend.Random.{Random}
use Rattle.random.specs.declared.engine.Engine.{Engine}
use Rattle.random.specs.Generator.{words_of}
use Rattle.random.specs.Lent.{joined_with}
use Rattle.lists.specs.Limit.{list_limit}
use Rattle.rehearsal.specs.Rehearsal.{taken_by}
use Rattle.rehearsal.specs.Rehearsing.{rehearsing_within, rehearsing_done, rehearsing_out, drawn_values}
use Rattle.rehearsal.specs.Values.{values_after}
use Rattle.rehearsal.specs.ValuesLaws.{values_none}
use Rattle.rehearsal.specs.Turns.{words_taken, values_taken}
use Rattle.rehearsal.specs.Standing.{Standing, standing_start}
use Rattle.rehearsal.specs.TurnLaws.{standing_on, values_on}
use Rattle.rehearsal.specs.Promises.{TakeTurnPromise}
use Rattle.rehearsal.specs.declared.turns.Draws.{Draws}
use Rattle.rehearsal.specs.declared.turns.Turn.{Turn}
use Rattle.shuffle.specs.Swap.{arranged}
use Rattle.shuffle.specs.SwapLaws.{arranged_none, arranged_append, length_arranged}
use Rattle.shuffle.specs.Shuffle.{places_drawn, list_after, shuffled}
use Rattle.shuffle.specs.ShuffleLaws.{list_drawn}
use Rattle.shuffle.specs.Performing.{draws_below, shuffle_draws, words_performed, performed}
use Rattle.shuffle.specs.Promises.{PerformInPromise}

-- ---- the draws by their cases

-- A list above the limit has no draws.
pub draws_long : (n budget : ℕ) → list_limit < n → shuffle_draws n budget ≡ draws_below 0 0 budget
unfolding shuffle_draws
draws_long n budget h = rw (lt-ltb list_limit n h)

-- Any other list, of n entries, has n - 1 draws, the first below n.
pub draws_fit : (n budget : ℕ) → n ≤ list_limit → shuffle_draws n budget ≡ draws_below n (n - 1) budget
unfolding shuffle_draws
draws_fit n budget h = rw (le-ltb list_limit n h)

-- So draws that the code makes with that count are the shuffle's.
pub draws_made : {count : ℕ} (n budget : ℕ) → n ≤ list_limit → count ≡ n - 1 → draws_below n count budget ≡ shuffle_draws n budget
draws_made n budget h e = ap (λ (x : ℕ). draws_below n x budget) e ∙ sym (draws_fit n budget h)

-- ---- the loop

-- The draws d stand at the turn t, and the list l₀ has become l by the swaps of those settled.
pub record Performing (g : Random) (d : Draws) (l₀ : List ℕ) (t : Turn) (cur : Random) (l : List ℕ) : Type 0 where
  pub standing : Standing g d t.used t.settled cur
  pub list : l ≡ arranged d.count (values_after (words_of g) d.first d.falls t.used) l₀

-- Before the first turn the list is as it came.
pub performing_start : (d : Draws) (e : Engine) (mt l : List ℕ)
    → Performing (joined_with e mt) d l (record { next = e; used = 0; settled = 0 }) (joined_with e mt) l
performing_start d e mt l = record {
  standing = standing_start d (joined_with e mt);
  list = sym (rw (values_none (words_of (joined_with e mt)) d.first d.falls) (arranged_none d.count l));
}

-- The list keeps its length.
pub performing_length : {g : Random} {d : Draws} {l₀ : List ℕ} {t : Turn} {cur : Random} {l : List ℕ}
    → Performing g d l₀ t cur l → length l ≡ length l₀
performing_length {g} {d} {l₀} {t} h =
    ap length h.list ∙ length_arranged d.count (values_after (words_of g) d.first d.falls t.used) l₀

-- A turn with its swaps: the list l has become l' by those of the values that the turn settled.
pub record TurnSwapped (d : Draws) (t : Turn) (mt l block : List ℕ) (t' : Turn) (mt' l' block' : List ℕ) : Type 0 where
  pub turn : TakeTurnPromise d t mt block t' mt' block'
  pub list : l' ≡ arranged (d.count - t.settled) (values_taken d t (words_of (joined_with t.next mt)) (words_taken d t (length block))) l

-- what the code of such a turn builds: the block begins with the turn's values
module _ {t' : Turn} {mt' block' : List ℕ} (d : Draws) (t : Turn) (mt block : List ℕ)
    (p : TakeTurnPromise d t mt block t' mt' block') where
  -- the values of the turn
  abbrev vs : List ℕ
  vs = values_taken d t (words_of (joined_with t.next mt)) (words_taken d t (length block))

  values_there : take (t'.settled - t.settled) block' ≡ vs
  values_there =
      let settled = p.settled in
      let m : t'.settled - t.settled ≡ length vs = omega arith in
      rw (m, p.holds, append_assoc) (take-append_seam vs _)

  -- So the swaps with the first entries of the block are those of the turn,
  pub turn_swapped : {last : ℕ} {l l' : List ℕ} → last ≡ d.count - t.settled
      → l' ≡ arranged last (take (t'.settled - t.settled) block') l
      → TurnSwapped d t mt l block t' mt' l' block'
  turn_swapped e q = record { turn = p; list = rw (values_there, e) at q }

  -- and there is room for them in it
  pub turn_room : t'.settled - t.settled ≤ length block'
  turn_room =
      let settled = p.settled in
      let held = ap length p.holds in
      let long = simp (length-append, append_assoc) at held in
      omega (arith, long)

-- Where a draw was left, a turn with its swaps goes on from where the draws and the list stand.
pub performing_on : {g : Random} {d : Draws} {l₀ : List ℕ} {t t' : Turn} {mt' block' l l' : List ℕ} (mt block : List ℕ)
    → Performing g d l₀ t (joined_with t.next mt) l → TurnSwapped d t mt l block t' mt' l' block' → t.settled < d.count
    → Performing g d l₀ t' (joined_with t'.next mt') l'
performing_on {g} {d} {l₀} {t} {l = l} mt block h p more = record {
  standing = standing_on mt block h.standing p.turn more;
  list = p.list ∙ ap (λ (x : ℕ). arranged (d.count - x) vs l) h.standing.settled
      ∙ ap (arranged (d.count - length before) vs) h.list
      ∙ sym (arranged_append d.count before vs l₀)
      ∙ ap (λ (x : List ℕ). arranged d.count x l₀) (sym (values_on mt block h.standing p.turn));
}
  where
    before : List ℕ
    before = values_after (words_of g) d.first d.falls t.used

    vs : List ℕ
    vs = values_taken d t (words_of (joined_with t.next mt)) (words_taken d t (length block))

-- ---- what it comes to

module _ {e r : Engine} {t : Turn} {mt l₀ mt' l : List ℕ} (budget : ℕ) (d : Draws) (asked : d ≡ shuffle_draws (length l₀) budget)
    (h : Performing (joined_with e mt) d l₀ t (joined_with r mt') l) where
  -- the words of the generator at the start
  abbrev s : Words
  s = words_of (joined_with e mt)

  at_end : words_performed s d ≡ t.used → PerformInPromise e mt l₀ budget r mt' l
  at_end w = rw (sym asked) (rw w (h.standing.moved, h.list))

  -- all draws are settled,
  pub performed_all : d.count ≤ t.settled → PerformInPromise e mt l₀ budget r mt' l
  performed_all m =
      let settled = h.standing.settled in
      let all-drawn = rehearsing_done s d.first d.falls d.count d.budget t.used h.standing.rehearsing (omega arith) in
      at_end (ap (taken_by d.budget) all-drawn)

  -- or the budget is used up.
  pub performed_short : t.settled < d.count → d.budget ≤ t.used → PerformInPromise e mt l₀ budget r mt' l
  performed_short m out =
      let settled = h.standing.settled in
      let within = rehearsing_within s d.first d.falls d.count d.budget t.used h.standing.rehearsing in
      let drawn = rehearsing_out s d.first d.falls d.count d.budget t.used h.standing.rehearsing (omega arith) out in
      let words = ap (taken_by d.budget) drawn in
      at_end (words ∙ omega arith)

-- ---- where the shuffle is answered, it is what was performed

module _ (s : Words) (l : List ℕ) (budget : ℕ) {places : List ℕ} {n : ℕ} (fits : length l ≤ list_limit)
    (e : places_drawn s (length l) budget ≡ all places n) where
  -- The words performed are those used,
  pub all_words : words_performed s (shuffle_draws (length l) budget) ≡ n
  all_words = rw (draws_fit (length l) budget fits) (ap (taken_by budget) e)

  -- and the list is the shuffled one.
  pub all_performed : performed s (shuffle_draws (length l) budget) l ≡ shuffled s l budget
  all_performed =
      let values = drawn_values s (length l) true (length l - 1) budget e in
      rw (draws_fit (length l) budget fits, e, values) (sym (list_drawn s budget l fits ∙ ap (list_after l) e))
