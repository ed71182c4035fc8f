-- The definitions of Spans by their cases.
use Rattle.std.specs.Prelude.{◌≡◌, refl, Bool, true, false, List, ℕ, zero, suc, ◌+◌, ◌-◌, ◌*◌, ◌/◌, ◌^◌, ◌≤◌, ◌<◌, eqb, ℤ}
use Rattle.std.proofs.Common.{sym, ◌∙◌, ap}
use native.Mathlib.Omega.{arith}
use borrow.Author.Tests.{lt-ltb, le-ltb, eq-eqb, ne_eqb, eqb-true, eqb-false}
use Rattle.std.specs.Int.Signed.{lt_z}
use Rattle.words.specs.Refusal.{order, out_of_budget}
use Rattle.words.specs.Draw.{Words, refused, gives, bounded_by}
use Rattle.words.specs.Outcomes.{raised}
use Rattle.words.specs.GoodWord.{FirstGood}
use Rattle.words.specs.OneOutcome.{out_of_budget_lem}
use Rattle.words.proofs.OneOutcome.{bounded_only}
use Rattle.words.proofs.AnswerIsFirst.{first_is_answer}
use Rattle.signed.specs.Signed.{gap}
use Rattle.random.specs.declared.engine.Engine.{Engine}
use Rattle.source.specs.declared.Drawn.{Drawn}
use Rattle.random.specs.Generator.{word_of, step, later, words_of, rand_of}
use Rattle.random.specs.GeneratorLaws.{later_none, later_one, word_at}
use Rattle.random.specs.Lent.{joined_with, joined_word}
use Rattle.random.specs.declared.backend.Random.{Random}
use Rattle.bounded.specs.declared.answers.Answer.{Answer}
use Rattle.bounded.specs.Answers.{AnswersIn, accepting}
use Rattle.bounded.specs.AnswerLaws.{accepting_answers}
use Rattle.spans.specs.Spans.{raw_by, span_by, uint_by, counted_from, int_by}

-- ---- one raw word

pub raw_short : (s : Words) (budget : ℕ) → budget ≡ 0 → raw_by s budget ≡ refused out_of_budget
unfolding raw_by
raw_short s budget h = rw (eq-eqb budget 0 h)

pub raw_word : (s : Words) (budget : ℕ) → 0 < budget → raw_by s budget ≡ gives (s 0) 1
unfolding raw_by
raw_word s budget h =
    let n : budget ≡ 0 → ⊥ = λ z. omega arith in
    rw (ne_eqb budget 0 n)

-- it is the draw below 2^32, for which every word is good
pub raw_is_bounded : (s : Words) (budget : ℕ) → raw_by s budget ≡ bounded_by s (2 ^ 32) budget
raw_is_bounded s zero = raw_short s 0 refl ∙ sym (bounded_only s (2 ^ 32) 0 (out_of_budget_lem (omega arith) (λ j h. absurd (omega arith))))
raw_is_bounded s (suc n) =
    let whole : s 0 * 2 ^ 32 / 2 ^ 32 ≡ s 0 = omega arith in
    raw_word s (suc n) (omega arith) ∙ sym (first_is_answer s (2 ^ 32) (suc n) 0 first_good_lem ∙ ap (λ (v : ℕ). gives v 1) whole)
  where
    first_good_lem : FirstGood s (2 ^ 32) (suc n) 0
    first_good_lem = record { among = omega arith; passes = omega arith; none_before = λ j h. absurd (omega arith) }

-- ---- from 0 up to `last`

module _ (s : Words) (last budget : ℕ) where
  pub span_none : last ≡ 0 → span_by s last budget ≡ gives 0 0
  unfolding span_by
  span_none z = rw (eq-eqb last 0 z)

  pub span_whole : last ≡ 2 ^ 32 - 1 → span_by s last budget ≡ raw_by s budget
  unfolding span_by
  span_whole e =
      let n : last ≡ 0 → ⊥ = λ z. omega arith in
      rw (ne_eqb last 0 n, eq-eqb last (2 ^ 32 - 1) e)

  pub span_part : (last ≡ 0 → ⊥) → (last ≡ 2 ^ 32 - 1 → ⊥) → span_by s last budget ≡ bounded_by s (last + 1) budget
  unfolding span_by
  span_part n e = rw (ne_eqb last 0 n, ne_eqb last (2 ^ 32 - 1) e)

-- so from 0 up to `last` is the draw below last + 1, and without a draw where last is 0
pub span_drawn : (s : Words) (last budget : ℕ) → 0 < last → span_by s last budget ≡ bounded_by s (last + 1) budget
span_drawn s last budget h = go (eqb last (2 ^ 32 - 1)) refl
  where
    go : (b : Bool) → eqb last (2 ^ 32 - 1) ≡ b → span_by s last budget ≡ bounded_by s (last + 1) budget
    go true e =
        let z = eqb-true last (2 ^ 32 - 1) e in
        let all : 2 ^ 32 ≡ last + 1 = omega arith in
        span_whole s last budget z ∙ raw_is_bounded s budget ∙ ap (λ (r : ℕ). bounded_by s r budget) all
    go false e = span_part s last budget (λ z. omega arith) (eqb-false last (2 ^ 32 - 1) e)

-- ---- between two ends

module _ (s : Words) (min max budget : ℕ) where
  pub uint_order : max < min → uint_by s min max budget ≡ refused order
  unfolding uint_by
  uint_order h = rw (lt-ltb max min h)

  pub uint_drawn : min ≤ max → uint_by s min max budget ≡ raised min (span_by s (max - min) budget)
  unfolding uint_by
  uint_drawn h = rw (le-ltb max min h)

module _ (s : Words) (min max : ℤ) (budget : ℕ) where
  pub int_order : lt_z max min ≡ true → int_by s min max budget ≡ counted_from min (refused order)
  unfolding int_by
  int_order h = rw h

  pub int_drawn : lt_z max min ≡ false → int_by s min max budget ≡ counted_from min (span_by s (gap min max) budget)
  unfolding int_by
  int_drawn h = rw h

-- ---- the first word of a generator, as the code answers it

pub raw_answers : {a : Answer Engine} {w : Drawn ℕ Engine} {budget : ℕ} (e : Engine) (m m' : List ℕ) → 0 < budget
    → joined_word w m' ≡ rand_of (joined_with e m) → a ≡ accepting w.word 1 w.next → AnswersIn e m (λ s. raw_by s budget) a m'
unfolding rand_of
raw_answers {w = w} {budget = budget} e m m' some d p =
    let g = joined_with e m in
    let next : joined_with w.next m' ≡ later 1 g =
    ap (λ (x : Drawn ℕ Random). x.next) d ∙ ap step (sym (later_none g)) ∙ sym (later_one 0 g) in
    let word : words_of g 0 ≡ w.word = sym (word_at 0 g) ∙ ap word_of (later_none g) ∙ sym (ap (λ (x : Drawn ℕ Random). x.word) d) in
    accepting_answers w.next m' g p (raw_word (words_of g) budget some ∙ ap (λ (v : ℕ). gives v 1) word) next

-- no room between the ends: answered with 0, from no word
pub span_answers : {a : Answer Engine} (last budget : ℕ) (e : Engine) (m : List ℕ) → a ≡ accepting 0 0 e → last ≡ 0
    → AnswersIn e m (λ s. span_by s last budget) a m
span_answers last budget e m p z = accepting_answers e m (joined_with e m) p (span_none _ _ _ z) (sym (later_none (joined_with e m)))
