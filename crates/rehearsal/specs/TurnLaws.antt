-- The laws of turns: the words that a turn puts into a list, and where the draws stand after it.
use Rattle.std.specs.Prelude.{◌≡◌, Bool, List, ◌++◌, ℕ, ◌+◌, ◌≤◌, ◌<◌, length, drop}
use Rattle.std.proofs.Common.{sym, ◌∙◌, ap, arith, length-append}
use Rattle.words.specs.Draw.{Words, after, listed}
use Rattle.random.specs.declared.backend.Random.{Random}
use Rattle.random.specs.Generator.{later, words_of}
use Rattle.random.specs.Lent.{joined_with}
use Rattle.random.specs.GeneratorLaws.{later_add, words_after}
use Rattle.ahead.specs.Ahead.{first_words}
use Rattle.ahead.specs.AheadLaws.{words_length, word_there}
use Rattle.rehearsal.specs.Values.{values_after, settled_after, bound_left}
use Rattle.rehearsal.specs.ValuesLaws.{settled_few, values_more, values_none, values_same}
use Rattle.rehearsal.specs.Turns.{SettledWords, words_taken, values_taken}
use Rattle.rehearsal.specs.Rehearsing.{rehearsing_on, rehearsing_within}
use Rattle.rehearsal.specs.Standing.{Standing}
use Rattle.rehearsal.specs.Promises.{TakeTurnPromise}
use Rattle.rehearsal.specs.declared.turns.Draws.{Draws}
use Rattle.rehearsal.specs.declared.turns.Turn.{Turn}

-- ---- words put into a list, and the draws that they settle

-- the words of a list are those of the sequence
pub values_listed : (s : Words) (r : ℕ) (falls : Bool) (n : ℕ)
    → values_after (listed (first_words s n)) r falls (length (first_words s n)) ≡ values_after s r falls n
values_listed s r falls n =
    ap (values_after (listed (first_words s n)) r falls) (words_length s n)
    ∙ values_same (listed (first_words s n)) s r falls n (λ j h. word_there s n j h)

-- The words of a generator put into a list, and the draws that the list settles, are draws that the generator's words settle.
pub words_settled : {g h : Random} {n count : ℕ} {l l' : List ℕ} (r : ℕ) (falls : Bool) → l ≡ first_words (words_of g) n → h ≡ later n g
    → (count ≡ settled_after (listed l) r falls (length l))
    × (l' ≡ values_after (listed l) r falls (length l) ++ drop (settled_after (listed l) r falls (length l)) l)
    → SettledWords g r falls n h count l'
words_settled {g} {n = n} r falls w m p =
    let same = values_listed (words_of g) r falls n in
    let put = rw w at p in
    record { moved = m; counted = rw same at put.0; holds = rw same at put.1 }

-- no more draws than words
pub settled_few_words : {g h : Random} {r : ℕ} {falls : Bool} {n count : ℕ} {l : List ℕ} → SettledWords g r falls n h count l → count ≤ n
settled_few_words {g} {r = r} {falls} {n} p =
    let few = settled_few (words_of g) r falls 0 n in
    let none = ap length (values_none (words_of g) r falls) in
    let z : 0 + n ≡ n = omega arith in
    let some = rw z at few in
    omega (arith, p.counted, some, none)

-- ---- where draws stand, turn after turn

module _ {g : Random} {d : Draws} {t : Turn} (mt block : List ℕ) {t' : Turn} {mt' block' : List ℕ}
    (h : Standing g d t.used t.settled (joined_with t.next mt))
    (p : TakeTurnPromise d t mt block t' mt' block') where
  -- the words of the generator at the start
  abbrev s : Words
  s = words_of g

  -- the words that the turn takes
  abbrev n : ℕ
  n = words_taken d t (length block)

  -- the values of the turn
  abbrev pub fresh : List ℕ
  fresh = values_taken d t (words_of (joined_with t.next mt)) n

  fresh_on : fresh ≡ values_after (after t.used s) (bound_left s d.first d.falls t.used) d.falls n
  fresh_on = rw (h.moved, words_after t.used g, h.settled)

  -- The values after the turn are those before it, and then its own.
  pub values_on : values_after s d.first d.falls t'.used ≡ values_after s d.first d.falls t.used ++ fresh
  values_on = ap (values_after s d.first d.falls) p.used ∙ values_more s d.first d.falls t.used n
      ∙ ap (λ (x : List ℕ). values_after s d.first d.falls t.used ++ x) (sym fresh_on)

  -- Where a draw was left, the draws stand after the turn where the turn says.
  pub standing_on : t.settled < d.count → Standing g d t'.used t'.settled (joined_with t'.next mt')
  standing_on more = record {
    moved = p.moved ∙ ap (later n) h.moved ∙ sym (later_add t.used n g) ∙ ap (λ (x : ℕ). later x g) (sym p.used);
    settled = p.settled ∙ ap (λ (x : ℕ). x + length fresh) h.settled
        ∙ sym (length-append (values_after s d.first d.falls t.used) fresh) ∙ sym (ap length values_on);
    rehearsing =
        let within = rehearsing_within s d.first d.falls d.count d.budget t.used h.rehearsing in
        let settled = h.settled in
        rw p.used (rehearsing_on s d.first d.falls d.count d.budget t.used n h.rehearsing (omega arith) (omega arith));
  }

-- words are left, and so a turn takes some
pub turn_takes : {d : Draws} {t : Turn} {t' : Turn} {mt' block' : List ℕ} (mt block : List ℕ) → TakeTurnPromise d t mt block t' mt' block'
    → 0 < length block
    → t.settled < d.count → t.used < d.budget → (t.used < t'.used) × (t'.used ≤ d.budget)
turn_takes mt block p some more left = let used = p.used in (omega arith, omega arith)
