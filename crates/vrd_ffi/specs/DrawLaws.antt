-- The draws of one number, by the draw that they stand on: where a call has nothing to refuse, its reply is that draw's.
use Rattle.std.specs.Prelude.{ℕ, ◌+◌, ◌-◌, ◌%◌, ◌^◌, ◌≤◌, ◌<◌, eqb, ℤ, pos, ◌+ℤ◌, Bool, true, false, List, ◌≡◌}
use Rattle.std.proofs.Common.{zero-add, mod-eq_of_lt, eqb-true, ◌∙◌, SFits}
use native.Mathlib.Omega.{arith}
use Rattle.std.proofs.lemmas.Bool.{eqb-false}
use Rattle.std.proofs.Math.ListN.{length}
use Rattle.std.specs.Int.Signed.{lt_z}
use Rattle.std.proofs.Math.Path.{refl, sym, ap}
use Rattle.std.specs.Int.{w32}
use Rattle.words.specs.declared.outcome.Outcome.{Outcome}
use Rattle.words.specs.Draw.{Words, bounded_by}
use Rattle.words.specs.Refusal as refusal
use Rattle.signed.proofs.GapLaws.{gap_fits}
use Rattle.signed.specs.Signed.{wrapped_sum, gap}
use Rattle.signed.specs.SignedLaws.{sum_exact}
use Rattle.random.specs.Generator.{words_of}
use Rattle.bounded.specs.Answers as library
use Rattle.words.specs.OutcomeLaws.{raised_answered, raised_refused}
use Rattle.words.specs.Outcomes.{raised, worked_on}
use Rattle.bounded.specs.RangeLaws.{range_drawn}
use Rattle.bounded.specs.Ranges.{range_by, char_by}
use Rattle.spans.specs.IntAnswers.{int_answer_from}
use Rattle.spans.specs.SpanLaws.{span_drawn, uint_drawn, int_drawn}
use Rattle.spans.specs.Spans.{span_by, uint_by, int_by, counted_from, signed_by}
use Rattle.lists.specs.CheckLaws as checks
use Rattle.lists.specs.CheckedDraws.{unless_passed}
use Rattle.lists.specs.Checks.{list_refusal, slice_refusal}
use Rattle.lists.specs.Choosing as choosing
use Rattle.lists.specs.Limit.{list_limit}
use Rattle.lists.specs.Slicing as slicing
use Rattle.vrd_ffi.specs.declared.answers.Number.{Number}
use Rattle.lent_state.specs.Answers.{told, formed, at_boundary}
use Rattle.lent_state.specs.AnswersLaws.{same_reply, told_formed}
use Rattle.vrd_ffi.specs.Choosing.{entry_of}
use Rattle.vrd_ffi.specs.Counting.{counted, counted_modulo}
use Rattle.vrd_ffi.specs.Handed.{number, integer, choice, number_of, integer_of, choice_of, start_of, drawn_by, counted_by}
use Rattle.vrd_ffi.specs.Packed.{unpacked, Drew, Below}
use Rattle.lent_state.specs.State.{generator_in}

-- nothing added changes nothing
raised_zero : (o : Outcome) → raised 0 o ≡ o
raised_zero o = go (eqb o.refusal 0) refl
  where
    go : (b : Bool) → eqb o.refusal 0 ≡ b → raised 0 o ≡ o
    go true e =
        let z = eqb-true o.refusal 0 e in
        raised_answered 0 o z ∙ rw zero-add (ap (λ (n : ℕ). record { refusal = n; value = o.value; used = o.used }) (sym z))
    go false e = raised_refused 0 o (eqb-false o.refusal 0 e)

-- the draw that every call here stands on
abbrev one : (r budget least : ℕ) → Words → Outcome
one r budget least w = raised least (bounded_by w r budget)

module _ (s t : List ℕ) (budget : ℕ) {a : Number} {s' u : List ℕ} where
  -- a call that replies as it does
  drawn_as : (r least : ℕ) → Drew s t r budget least a s' u → (by : Words → Outcome)
      → one r budget least (words_of (generator_in s t)) ≡ by (words_of (generator_in s t))
      → told a s' u ≡ at_boundary s t (number 0 0 refusal.kind) (drawn_by by)
  drawn_as r least d by e =
      d ∙ same_reply s t (number 0 0 refusal.kind) (drawn_by (one r budget least)) (drawn_by by)
      (ap (λ (o : Outcome). number_of (library.answer_from (generator_in s t) o)) e)

  pub bounded_drawn : (r : ℕ) → Drew s t r budget 0 a s' u
      → told a s' u ≡ at_boundary s t (number 0 0 refusal.kind) (drawn_by (λ w. bounded_by w r budget))
  bounded_drawn r d = drawn_as r 0 d (λ w. bounded_by w r budget) (raised_zero (bounded_by (words_of (generator_in s t)) r budget))

  pub range_drawn_by : (min max : ℕ) → min < max → Drew s t (max - min) budget min a s' u
      → told a s' u ≡ at_boundary s t (number 0 0 refusal.kind) (drawn_by (λ w. range_by w min max budget))
  range_drawn_by min max h d =
      drawn_as (max - min) min d (λ w. range_by w min max budget) (sym (range_drawn (words_of (generator_in s t)) min max budget h))

  pub char_drawn : Drew s t 26 budget 97 a s' u
      → told a s' u ≡ at_boundary s t (number 0 0 refusal.kind) (drawn_by (λ w. char_by w budget))
  unfolding char_by
  char_drawn d = drawn_as 26 97 d (λ w. char_by w budget) refl

  pub uint_drawn_by : (min max : ℕ) → min < max → Drew s t (max - min + 1) budget min a s' u
      → told a s' u ≡ at_boundary s t (number 0 0 refusal.kind) (drawn_by (λ w. uint_by w min max budget))
  uint_drawn_by min max h d =
      let w = words_of (generator_in s t) in
      let some : 0 < max - min = omega arith in
      drawn_as (max - min + 1) min d (λ w. uint_by w min max budget)
      (ap (raised min) (sym (span_drawn w (max - min) budget some)) ∙ sym (uint_drawn w min max budget (omega arith)))

  -- ---- of a list

  pub start_drawn : (n window : ℕ) → n ≤ list_limit → 0 < window → window ≤ n → Drew s t (n - window + 1) budget 0 a s' u
      → told a s' u
      ≡ at_boundary s t (number 0 0 refusal.kind)
      (λ g. start_of (slicing.start_from g (slicing.start_of (slicing.slice_by (words_of g) n window budget))))
  unfolding slicing.start_from slicing.start_of slicing.slice_by library.answer_from
  start_drawn n window h some room d =
      let w = words_of (generator_in s t) in
      let allowed = checks.slice_only n window (checks.allowed (omega arith) h some room) in
      let passes = unless_passed (slice_refusal n window) (bounded_by w (n - window + 1) budget) allowed in
      drawn_as (n - window + 1) 0 d (λ w. slicing.slice_by w n window budget)
      (raised_zero (bounded_by w (n - window + 1) budget) ∙ sym passes)

  pub choice_drawn : (list : List ℕ) → 0 < length list → length list ≤ list_limit → Drew s t (length list) budget 0 a s' u
      → told (entry_of list a) s' u
      ≡ at_boundary s t (choice 0 0 0 refusal.kind) (λ g. choice_of (choosing.choice_from g (choosing.choose_by (words_of g) list budget)))
  unfolding choosing.choice_from choosing.choose_by choosing.entry_of choosing.place_by worked_on library.answer_from
  choice_drawn list some h d =
      let g = generator_in s t in
      let w = words_of g in
      let n = length list in
      let passes = unless_passed (list_refusal n) (bounded_by w n budget) (checks.list_only (checks.allowed some h)) in
      let same : one n budget 0 w ≡ choosing.place_by w n budget = raised_zero (bounded_by w n budget) ∙ sym passes in
      told_formed s t (number 0 0 refusal.kind) (drawn_by (one n budget 0)) (entry_of list) d
      ∙ same_reply s t _ (λ g. formed (entry_of list) (drawn_by (one n budget 0) g)) _
      (ap (λ (o : Outcome). formed (entry_of list) (number_of (library.answer_from g o))) same)

-- a number that one word settled is below n,
pub once_below : {n q : ℕ} {a : Number} → a ≡ number q 1 0 → q < n → a.refusal ≡ 0 → a.value < n
once_below e h z = rw e h

-- and so is any other, where it is answered
pub number_below : (n p : ℕ) (a : Number) → a ≡ unpacked p → Below n 0 p → a.refusal ≡ 0 → a.value < n
number_below n p a e below z = let l = below (ap (λ (x : Number). x.refusal) (sym e) ∙ z) in rw e (omega (arith, l))

-- ---- signed

-- the sum modulo 2^32 is exact where what is added is at most the gap
counted_exact : {min max : ℤ} (a : Number) → SFits w32 min → SFits w32 max
    → (a.refusal ≡ 0 → (a.value < 2 ^ 32) × (a.value ≤ gap min max)) → counted_modulo min a ≡ counted min a
unfolding counted_modulo
counted_exact {min} {max} a f f' small = go (eqb a.refusal 0) refl
  where
    go : (b : Bool) → eqb a.refusal 0 ≡ b → counted_modulo min a ≡ counted min a
    go true e =
        let (word, within) = small (eqb-true a.refusal 0 e) in
        let whole : a.value % 2 ^ 32 ≡ a.value = mod-eq_of_lt word in
        let sum : wrapped_sum 32 min a.value ≡ min +ℤ pos a.value = sum_exact w32 min a.value (gap_fits f f' within) in
        rw (e, whole, sum)
    go false e = rw e

module _ (s t : List ℕ) {min max : ℤ} (f : SFits w32 min) (f' : SFits w32 max) (last budget : ℕ) (a : Number) where
  pub integer_drawn : lt_z max min ≡ false → last ≡ gap min max → 0 < last → last < 2 ^ 32 → {s' u : List ℕ}
      → Drew s t (last + 1) budget 0 a s' u → (a.refusal ≡ 0 → a.value < last + 1)
      → told (counted_modulo min a) s' u
      ≡ at_boundary s t (integer (pos 0) 0 refusal.kind) (counted_by (λ w. int_by w min max budget))
  unfolding int_answer_from counted_from signed_by worked_on library.answer_from
  integer_drawn order far wide small {s'} {u} d below =
      let g = generator_in s t in
      let w = words_of g in
      let same : one (last + 1) budget 0 w ≡ span_by w (gap min max) budget =
      raised_zero (bounded_by w (last + 1) budget) ∙ sym (span_drawn w last budget wide) ∙ ap (λ (n : ℕ). span_by w n budget) far in
      ap (λ (a : _). told a s' u) (counted_exact a f f' (λ z. let b = below z in (omega arith, rw (sym far) (omega arith))))
      ∙ told_formed s t (number 0 0 refusal.kind) (drawn_by (one (last + 1) budget 0)) (counted min) d
      ∙ same_reply s t _ (λ g. formed (counted min) (drawn_by (one (last + 1) budget 0) g)) _
      (ap (λ (o : Outcome). formed (counted min) (number_of (library.answer_from g o))) same
      ∙ ap (λ (o : _). integer_of (int_answer_from g o)) (sym (int_drawn w min max budget order)))
