-- The laws of answers: what the code builds is the answer of an outcome.
use Rattle.std.specs.Prelude.{◌≡◌, refl, Bool, true, List, ℕ, Option, Some, None, ◌+◌, ◌^◌, ◌<◌}
use Rattle.std.proofs.Common.{sym, ◌∙◌, ap, subst, arith}
use Rattle.words.specs.Refusal.{answered, zero_range, out_of_budget}
use Rattle.words.specs.declared.outcome.Outcome.{Outcome}
use Rattle.words.specs.declared.reply.Reply.{Reply}
use Rattle.words.specs.Numbers.{numbered}
use Rattle.words.specs.Promises.{RaisesPromise}
use Rattle.words.specs.Draw.{good, quotient, refused, gives, bounded_by}
use Rattle.words.specs.Outcomes.{raised, raised_modulo}
use Rattle.words.specs.OutcomeLaws.{raised_used, raised_exact}
use Rattle.words.proofs.GoodWord.{good_passes, passes_positive}
use Rattle.words.proofs.BelowItsBound.{quotient_below}
use Rattle.words.specs.DrawLoop.{Told}
use Rattle.words.proofs.DrawLoop.{told_answers, told_refuses}
use Rattle.words.specs.OneOutcome.{zero_range_lem}
use Rattle.words.proofs.OneOutcome.{bounded_only}
use Rattle.random.specs.declared.backend.Random.{Random}
use Rattle.random.specs.declared.engine.Engine.{Engine}
use Rattle.source.specs.declared.Drawn.{Drawn}
use Rattle.random.specs.Generator.{later, words_of, rand_of}
use Rattle.random.specs.GeneratorLaws.{later_none}
use Rattle.random.specs.Lent.{joined_with, joined_word}
use Rattle.bounded.specs.declared.answers.Answer.{Answer}
use Rattle.bounded.specs.declared.draw.Tried.{Tried}
use Rattle.bounded.specs.Answers.{answer_with, answer_from, answer_in, outcome_in, joined_answer, Below, refusing, accepting, in_numbers}
use Rattle.bounded.specs.Trying.{TriedFrom, found, value, trying_start, trying_good}

-- ---- what the code builds

pub refusing_answers : {a : Answer Engine} {o : Outcome} {number : ℕ} (e : Engine) (t : List ℕ) → a ≡ refusing number e → o ≡ refused number
    → joined_answer a t ≡ answer_from (joined_with e t) o
unfolding answer_from
refusing_answers e t p q = rw (p, q, later_none (joined_with e t))

pub accepting_answers : {a : Answer Engine} {o : Outcome} {v n : ℕ} (e : Engine) (t : List ℕ) (g : Random) → a ≡ accepting v n e
    → o ≡ gives v n → joined_with e t ≡ later n g → joined_answer a t ≡ answer_from g o
unfolding answer_from
accepting_answers e t g p q h = rw (p, q, h)

-- ---- THE LAW of a value worked on

-- An answer is that of an outcome o, and f, which keeps the words used, works on outcomes. Then what f makes of the answer's outcome, put
-- together with the answer's generator, is what f makes of o, with the generator after its words: so it is the answer of f o. x is what
-- the code has made of the answer's outcome.
pub worked_answers : {X Y : Type 0} {a : Answer Engine} {t : List ℕ} {x : X} (put : X → Random → Y) (used : X → ℕ) (f : Outcome → X)
    (g : Random) (o : Outcome) → joined_answer a t ≡ answer_from g o → x ≡ f (outcome_in a) → used (f o) ≡ o.used
    → put x (joined_with a.next t) ≡ put (f o) (later (used (f o)) g)
unfolding answer_from
worked_answers put used f g o h made kept =
    rw (made, kept) (ap (λ (y : Answer Random). put (f (record { refusal = y.refusal; value = y.value; used = y.used })) y.next) h)

-- n added to an answer, as the code adds it, where the sum has 32 bits
pub raised_answers : {a b : Answer Engine} {t : List ℕ} {told sum : Outcome} (n : ℕ) (g : Random) (o : Outcome)
    → joined_answer a t ≡ answer_from g o → (a.refusal ≡ answered → n + a.value < 2 ^ 32)
    → told ≡ outcome_in a → sum ≡ raised_modulo n told → b ≡ answer_in sum a.next
    → joined_answer b t ≡ answer_from g (raised n o)
unfolding answer_from
raised_answers {a} n g o h small told sum built =
    let exact = sum ∙ ap (raised_modulo n) told ∙ raised_exact n (outcome_in a) small in
    rw built (worked_answers answer_with (λ (x : Outcome). x.used) (raised n) g o h exact (raised_used n o))

-- the same of the code's answers: the code adds it modulo 2^32
pub raised_replies : (a b : Reply ℕ Engine) {t : List ℕ} (n : ℕ) (g : Random) (o : Outcome)
    → joined_answer (in_numbers a) t ≡ answer_from g o → ((numbered a.told).refusal ≡ answered → n + (numbered a.told).value < 2 ^ 32)
    → RaisesPromise n a b → joined_answer (in_numbers b) t ≡ answer_from g (raised n o)
raised_replies a b n g o h small sum =
    raised_answers n g o h small refl sum.0 (ap (answer_in (numbered b.told)) sum.1)

-- ---- a draw below r over a lent table: what it owes, by its ways out

-- the answer is that of the draw, and where there is one its value is below r
abbrev pub Draws : Random → ℕ → ℕ → Answer Engine → List ℕ → Type 0
Draws g r budget a m = (joined_answer a m ≡ answer_from g (bounded_by (words_of g) r budget)) × Below r a

no_value : {a : Answer Engine} {e : Engine} (r number : ℕ) → 0 < number → a ≡ refusing number e → Below r a
no_value r number p q z = absurd (omega (arith, sym (ap (λ (x : Answer Engine). x.refusal) q) ∙ z))

-- r is 0,
pub draws_zero : {a : Answer Engine} {r : ℕ} (budget : ℕ) (e : Engine) (m : List ℕ) → a ≡ refusing zero_range e → r ≡ 0
    → Draws (joined_with e m) r budget a m
draws_zero {r = r} budget e m q z = (
  refusing_answers e m q (bounded_only _ r budget (zero_range_lem z)),
  no_value r zero_range (omega arith) q,
)

-- a try that was settled is the answer,
pub draws_found : {g : Random} {r budget v : ℕ} {t : Tried} {h : Random} {a : Answer Engine} (e : Engine) (m : List ℕ)
    → TriedFrom g r budget t h → joined_with e m ≡ h → t.value ≡ Some v → v < r → a ≡ accepting v t.used e
    → Draws g r budget a m
draws_found {g} {r} {budget} {v} {t} e m d same q small p =
    let told : Told (words_of g) r budget true v t.used =
    subst (λ (o : Option ℕ). Told (words_of g) r budget (found o) (value o) t.used) q d.told in (
      accepting_answers e m g p (told_answers told refl) (same ∙ d.moved),
      λ z. rw p small,
    )

-- and one that was not is the refusal, with the generator that came in.
pub draws_short : {r budget : ℕ} {t : Tried} {h : Random} {a : Answer Engine} (e : Engine) (m : List ℕ)
    → TriedFrom (joined_with e m) r budget t h → 0 < r → t.value ≡ None → a ≡ refusing out_of_budget e
    → Draws (joined_with e m) r budget a m
draws_short {r} e m d pos q p = (
  refusing_answers e m p (told_refuses d.told pos (ap found q)),
  no_value r out_of_budget (omega arith) p,
)

-- The first word, where it is good, is a try that is settled.
pub draws_first : {r budget v : ℕ} {b : Bool} {w : Drawn ℕ Engine} {a : Answer Engine} (e : Engine) (m m' : List ℕ) → 0 < budget
    → joined_word w m' ≡ rand_of (joined_with e m) → w.word < 2 ^ 32 → b ≡ good r w.word → b ≡ true → v ≡ quotient r w.word
    → a ≡ accepting v 1 w.next → Draws (joined_with e m) r budget a m'
draws_first {r} {w = w} e m m' some d sized g t q p =
    let pos = passes_positive r w.word (good_passes r w.word (sym g ∙ t)) in
    let tried = trying_good trying_start w.next some d g t q in
    draws_found w.next m' tried refl refl (rw q (quotient_below r w.word pos sized)) p
