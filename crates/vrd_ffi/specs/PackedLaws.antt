-- The laws of packed answers: what each number says, what is packed of the library's answer, and the draw that the first word settles.
use Rattle.std.specs.Prelude.{ℕ, zero, suc, ◌+◌, ◌*◌, ◌/◌, ◌%◌, ◌^◌, ◌≤◌, ◌<◌, Bool, cond, List, ◌≡◌}
use Rattle.std.proofs.Common.{zero-add, mod-eq_of_lt, arith, sym, ◌∙◌}
use borrow.Author.Tests.{eq-eqb, ne_eqb, eqb-true, eqb-false, lt-ltb, le-ltb}
use Rattle.std.proofs.Math.Dec.{eqb}
use Rattle.std.proofs.Math.Bool.{true, false}
use Rattle.std.proofs.Math.Path.{refl, ap}
use Rattle.words.proofs.AnswerIsFirst.{first_is_answer}
use Rattle.words.specs.declared.outcome.Outcome.{Outcome}
use Rattle.words.specs.Draw.{Words, quotient, refused, bounded_by}
use Rattle.words.specs.Draw as draw
use Rattle.words.specs.GoodWord.{Passes, FirstGood}
use Rattle.words.proofs.GoodWord.{good_passes}
use Rattle.words.specs.OneOutcome.{Bounded, zero_range_lem, answers, out_of_budget_lem}
use Rattle.words.proofs.OneOutcome.{bounded_is}
use Rattle.words.specs.Refusal as refusal
use Rattle.random.specs.Generator.{later, word_of, words_of, rand_of}
use Rattle.random.specs.GeneratorLaws.{later_none, word_at}
use Rattle.random.specs.Lent.{joined_with}
use Rattle.random.specs.declared.backend.Random.{Random}
use Rattle.random.specs.declared.engine.Engine.{Engine}
use Rattle.bounded.specs.Answers as library
use Rattle.words.specs.OutcomeLaws.{raised_answered, raised_refused}
use Rattle.words.specs.Outcomes.{raised}
use Rattle.bounded.specs.declared.answers.Answer.{Answer}
use Rattle.vrd_ffi.specs.declared.answers.Number.{Number}
use Rattle.lent_state.specs.Answers.{Told, told, written}
use Rattle.lent_state.specs.AnswersLaws.{unknown_kind, known_kind, settled}
use Rattle.vrd_ffi.specs.Handed.{number, number_of, drawn_by}
use Rattle.vrd_ffi.specs.Moves.{Hit, Quick, below_within}
use Rattle.vrd_ffi.specs.Packed.{unpacked, packed, Drew, Draws, Below}
use Rattle.lent_state.specs.State.{kind_in, generator_in, state_after}

-- ---- what a packed number says

pub says_one : (p : ℕ) → p < 2 ^ 32 → unpacked p ≡ number p 1 0
unfolding unpacked
says_one p h = rw (lt-ltb p (2 ^ 32) h)

pub says_refused : (p : ℕ) → 2 ^ 32 ≤ p → p / 2 ^ 32 ≡ 1 → unpacked p ≡ number 0 0 (p % 2 ^ 32)
unfolding unpacked
says_refused p h e = rw (le-ltb p (2 ^ 32) h, eq-eqb (p / 2 ^ 32) 1 e)

pub says_more : (p : ℕ) → 2 ^ 32 ≤ p → (p / 2 ^ 32 ≡ 1 → ⊥) → unpacked p ≡ number (p % 2 ^ 32) (p / 2 ^ 32) 0
unfolding unpacked
says_more p h e = rw (le-ltb p (2 ^ 32) h, ne_eqb (p / 2 ^ 32) 1 e)

-- ---- what is packed

holds_refused : (n : ℕ) → n < 2 ^ 32 → unpacked (2 ^ 32 + n) ≡ number 0 0 n
holds_refused n h =
    let d : (2 ^ 32 + n) / 2 ^ 32 ≡ 1 = omega arith in
    let m : (2 ^ 32 + n) % 2 ^ 32 ≡ n = omega arith in
    says_refused (2 ^ 32 + n) (omega arith) d ∙ ap (number 0 0) m

holds_more : (u v : ℕ) → 2 ≤ u → v < 2 ^ 32 → unpacked (u * 2 ^ 32 + v) ≡ number v u 0
holds_more u v h l =
    let d : (u * 2 ^ 32 + v) / 2 ^ 32 ≡ u = omega arith in
    let m : (u * 2 ^ 32 + v) % 2 ^ 32 ≡ v = omega arith in
    says_more (u * 2 ^ 32 + v) (omega arith) (λ e. omega (arith, d)) ∙ rw (d, m)

-- an unknown kind
pub packs_kind : (s t : List ℕ) (r budget least : ℕ) → 3 < kind_in s → Draws s t r budget least (2 ^ 32 + refusal.kind) s t
packs_kind s t r budget least h =
    ap (λ (a : Number). told a s t) (holds_refused refusal.kind (omega arith))
    ∙ unknown_kind s t (number 0 0 refusal.kind) (drawn_by (λ w. raised least (bounded_by w r budget))) h

pub kind_below : (r least : ℕ) → Below r least (2 ^ 32 + refusal.kind)
kind_below r least e = absurd (omega (arith, sym (ap (λ (a : Number). a.refusal) (holds_refused refusal.kind (omega arith))) ∙ e))

-- an answer of the library's, by its outcome
abbrev handed : Outcome → Number
handed o = number o.value o.used o.refusal

packs : {w : Words} {r budget : ℕ} (least : ℕ) {o : Outcome} → Bounded w r budget o → least + r ≤ 2 ^ 32 → (o.refusal ≡ 0 → o.value < r)
    → unpacked (packed o.refusal o.value o.used least) ≡ handed (raised least o)
unfolding packed
packs least (zero_range_lem z) room small =
    holds_refused 1 (omega arith) ∙ ap handed (sym (raised_refused least (refused 1) (λ e. omega (arith, e))))
packs least (out_of_budget_lem h f) room small =
    holds_refused 8 (omega arith) ∙ ap handed (sym (raised_refused least (refused 8) (λ e. omega (arith, e))))
packs {w} {r} least (answers k h f) room small =
    let v = quotient r (w k) in
    let lt : least + v < 2 ^ 32 = omega (arith, small refl) in
    let sum : (least + v) % 2 ^ 32 ≡ least + v = mod-eq_of_lt lt in
    rw sum (go k (least + v) lt) ∙ ap handed (sym (raised_answered least (draw.gives v (k + 1)) refl))
  where
    go : (n v : ℕ) → v < 2 ^ 32 → unpacked (cond (eqb (n + 1) 1) v ((n + 1) * 2 ^ 32 + v)) ≡ number v (n + 1) 0
    go zero v lt = says_one v lt
    go (suc n) v lt =
        let other : suc n + 1 ≡ 1 → ⊥ = λ e. omega arith in
        rw (ne_eqb (suc n + 1) 1 other) (holds_more (suc n + 1) v (omega arith) lt)

-- ---- a number added to an outcome

raised_keeps : (n : ℕ) (o : Outcome) → ((raised n o).refusal ≡ o.refusal) × ((raised n o).used ≡ o.used)
raised_keeps n o = go (eqb o.refusal 0) refl
  where
    go : (b : Bool) → eqb o.refusal 0 ≡ b → ((raised n o).refusal ≡ o.refusal) × ((raised n o).used ≡ o.used)
    go true e = let z = eqb-true o.refusal 0 e in rw (raised_answered n o z) (sym z, refl)
    go false e = rw (raised_refused n o (eqb-false o.refusal 0 e)) (refl, refl)

raised_below : (n r : ℕ) (o : Outcome) → (o.refusal ≡ 0 → o.value < r) → (raised n o).refusal ≡ 0 → (raised n o).value < n + r
raised_below n r o small z =
    let answered = sym (raised_keeps n o).0 ∙ z in
    rw (raised_answered n o answered) (omega (arith, small answered))

-- ---- a draw by the library's call

-- what is not 0 is more
positive : (n : ℕ) → (n ≡ 0 → ⊥) → 0 < n
positive zero h = absurd (h refl)
positive (suc n) h = omega arith

module _ (s t : List ℕ) (r budget least : ℕ) (room : least + r ≤ 2 ^ 32) where
  pub library_draws : kind_in s ≤ 3 → (a : Answer Engine) (u s' : List ℕ)
      → library.joined_answer a u ≡ library.answer_from (generator_in s t) (bounded_by (words_of (generator_in s t)) r budget)
      → (a.refusal ≡ 0 → a.value < r) → s' ≡ state_after a.refusal a.next s
      → Draws s t r budget least (packed a.refusal a.value a.used least) s' u
  unfolding library.answer_from
  library_draws k a u s' h small w =
      let g = generator_in s t in
      let o = bounded_by (words_of g) r budget in
      let n : a.refusal ≡ o.refusal = ap (λ (x : Answer Random). x.refusal) h in
      let v : a.value ≡ o.value = ap (λ (x : Answer Random). x.value) h in
      let m : a.used ≡ o.used = ap (λ (x : Answer Random). x.used) h in
      let next : joined_with a.next u ≡ later o.used g = ap (λ (x : Answer Random). x.next) h in
      let whole = packs least (bounded_is (words_of g) r budget) room (λ e. rw (sym v) (small (n ∙ e))) in
      settled s t (number 0 0 refusal.kind) (drawn_by (λ w. raised least (bounded_by w r budget))) k a.refusal _ a.next u s' w
      (let (same, used) = raised_keeps least o in rw (n, v, m, next, whole, same, used))

  pub library_below : (a : Answer Engine) (u : List ℕ)
      → library.joined_answer a u ≡ library.answer_from (generator_in s t) (bounded_by (words_of (generator_in s t)) r budget)
      → (a.refusal ≡ 0 → a.value < r) → Below r least (packed a.refusal a.value a.used least)
  unfolding library.answer_from
  library_below a u h small =
      let g = generator_in s t in
      let o = bounded_by (words_of g) r budget in
      let n : a.refusal ≡ o.refusal = ap (λ (x : Answer Random). x.refusal) h in
      let v : a.value ≡ o.value = ap (λ (x : Answer Random). x.value) h in
      let m : a.used ≡ o.used = ap (λ (x : Answer Random). x.used) h in
      let whole = packs least (bounded_is (words_of g) r budget) room (λ e. rw (sym v) (small (n ∙ e))) in
      λ z. rw (n, v, m, whole) (raised_below least r o (λ e. rw (sym v) (small (n ∙ e))) (rw (n, v, m, whole) at z))

-- ---- a draw by the first word

module _ (s t : List ℕ) (r budget least : ℕ) where
  -- the first word, where it settles the draw
  settles_draw : (q : ℕ) (s' : List ℕ) → 0 < budget → Hit s t r q s'
      → raised least (bounded_by (words_of (generator_in s t)) r budget) ≡ draw.gives (least + q) 1
  settles_draw q s' some h =
      let g = generator_in s t in
      let first : words_of g 0 ≡ word_of g = sym (word_at 0 g) ∙ ap word_of (later_none g) in
      let passes : Passes r (words_of g 0) = rw first (good_passes r (word_of g) h.settled.fine) in
      let none : FirstGood (words_of g) r budget 0 = record { among = some; passes = passes; none_before = λ j l. absurd (omega arith) } in
      let found = first_is_answer (words_of g) r budget 0 none in
      let drawn : quotient r (words_of g 0) ≡ q = ap (quotient r) first ∙ sym h.settled.drawn in
      ap (raised least) (found ∙ ap (λ (v : ℕ). draw.gives v 1) drawn) ∙ raised_answered least (draw.gives q 1) refl

  hit_drew : (q : ℕ) (s' : List ℕ) → 0 < budget → Hit s t r q s' → Drew s t r budget least (number (least + q) 1 0) s' t
  unfolding library.answer_from rand_of later state_after
  hit_drew q s' some h =
      let g = generator_in s t in
      ap (λ (x : Told ℕ). told (number (least + q) 1 0) x.state x.table) h.moved
      ∙ ap (λ (o : Outcome). written s (number_of (library.answer_from g o))) (sym (settles_draw q s' some h))
      ∙ known_kind s t (number 0 0 refusal.kind) (drawn_by (λ w. raised least (bounded_by w r budget))) h.known

  -- a word that was tried and settled the draw: the budget allows a word, and so it was tried below r
  tried_hit : {q : ℕ} {s' : List ℕ} → Quick s t (below_within r budget) q s' → q < 2 ^ 32 → (0 < budget) × Hit s t r q s'
  unfolding below_within
  tried_hit {q} {s'} tried z = go (eqb budget 0) refl (tried.hit z)
    where
      go : (b : Bool) → eqb budget 0 ≡ b → Hit s t (cond b 0 r) q s' → (0 < budget) × Hit s t r q s'
      go true e h = absurd (omega (arith, h.settled.small))
      go false e h = let some = eqb-false budget 0 e in (positive budget some, h)

  -- what it answers,
  pub tried_drew : {q : ℕ} {s' : List ℕ} → Quick s t (below_within r budget) q s' → q < 2 ^ 32
      → Drew s t r budget least (number (least + q) 1 0) s' t
  tried_drew {q} {s'} tried z = let (some, h) = tried_hit tried z in hit_drew q s' some h

  -- which is below least + r,
  pub tried_below : {q : ℕ} {s' : List ℕ} → Quick s t (below_within r budget) q s' → q < 2 ^ 32 → q < r
  tried_below tried z = (tried_hit tried z).1.settled.small

  -- and the number that says it
  pub tried_draws : least + r ≤ 2 ^ 32 → {q : ℕ} {s' : List ℕ} → Quick s t (below_within r budget) q s' → q < 2 ^ 32
      → (Draws s t r budget least (least + q) s' t) × Below r least (least + q)
  tried_draws room {q} {s'} tried z =
      let small = tried_below tried z in
      let says = says_one (least + q) (omega (arith, room, small)) in
      (ap (λ (a : Number). told a s' t) says ∙ tried_drew tried z, λ e. rw says (omega (arith, small)))

-- with nothing added
pub tried_alone : (s t : List ℕ) (r budget : ℕ) {q : ℕ} {s' : List ℕ} → Quick s t (below_within r budget) q s' → q < 2 ^ 32
    → Drew s t r budget 0 (number q 1 0) s' t
tried_alone s t r budget tried z = rw zero-add at (tried_drew s t r budget 0 tried z)
