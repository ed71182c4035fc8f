-- What the code builds for a draw after a check, over a lent table, once it has worked the check's number out.
use Rattle.std.specs.Prelude.{◌≡◌, refl, List, ℕ, Result, Ok, Err}
use Rattle.std.specs.Result.{result_and}
use Rattle.std.proofs.Common.{sym, ◌∙◌, ap, arith}
use Rattle.words.specs.Refusal.{answered}
use Rattle.words.specs.declared.outcome.Outcome.{Outcome}
use Rattle.words.specs.Draw.{refused}
use Rattle.random.specs.declared.engine.Engine.{Engine}
use Rattle.random.specs.declared.backend.Random.{Random}
use Rattle.random.specs.Lent.{joined_with}
use Rattle.bounded.specs.declared.answers.Answer.{Answer}
use Rattle.bounded.specs.Answers.{answer_from, joined_answer, refusing}
use Rattle.bounded.specs.AnswerLaws.{refusing_answers}
use Rattle.words.specs.declared.refusal.Refusal.{Refusal}
use Rattle.words.specs.Numbers.{number_of}
use Rattle.words.specs.NumbersLaws.{number_positive}
use Rattle.lists.specs.Checks.{first_of, unless}
use Rattle.lists.specs.CheckLaws.{first_passed, first_refuses}
use Rattle.lists.specs.Replies.{refusal_in}
use Rattle.lists.specs.CheckedDraws.{unless_passed, unless_refuses}

module _ {number checked : ℕ} (o : Outcome) (told : number ≡ checked) where
  pub passed_answers : {a : Answer Engine} {m : List ℕ} (g : Random) → number ≡ answered → joined_answer a m ≡ answer_from g o
      → joined_answer a m ≡ answer_from g (unless checked o)
  passed_answers g z h = rw (unless_passed checked o (sym told ∙ z)) h

  pub refused_answers : {a : Answer Engine} (e : Engine) (m : List ℕ) → (number ≡ answered → ⊥) → a ≡ refusing number e
      → (joined_answer a m ≡ answer_from (joined_with e m) (unless checked o)) × (a.refusal ≡ answered → ⊥)
  refused_answers {a} e m h p = (
    refusing_answers e m p (unless_refuses checked o (λ z. h (told ∙ z)) ∙ ap refused (sym told)),
    λ z. h (sym (ap (λ (x : Answer Engine). x.refusal) p) ∙ z),
  )

-- Of two checks one after the other the first that refuses gives the number.
pub first_and : {T : Type 0} (a b : Result T Refusal) → refusal_in (result_and a b) ≡ first_of (refusal_in a) (refusal_in b)
first_and (Ok t) b = sym (first_passed answered (refusal_in b) refl)
first_and (Err r) b = sym (first_refuses (number_of r) (refusal_in b) (λ z. let some = number_positive r in omega arith))
