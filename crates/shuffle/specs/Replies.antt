-- The code's answers of a shuffle, in document 01's numbers: the value of an answered one is 0.
use Rattle.std.specs.Prelude.{Result, Ok, Err}
use Rattle.words.specs.declared.outcome.Outcome.{Outcome}
use Rattle.words.specs.declared.refusal.Refusal.{Refusal}
use Rattle.words.specs.declared.reply.Given.{Given}
use Rattle.words.specs.declared.reply.Reply.{Reply}
use Rattle.words.specs.Draw.{gives, refused}
use Rattle.words.specs.Numbers.{number_of}
use Rattle.random.specs.declared.backend.Random.{Random}
use Rattle.random.specs.declared.engine.Engine.{Engine}
use Rattle.bounded.specs.declared.answers.Answer.{Answer}
use Rattle.bounded.specs.Answers.{answer_in, answer_with}

-- What it tells,
abbrev pub done : Result (Given (Unit {0})) Refusal → Outcome
done (Ok g) = gives 0 g.used
done (Err r) = refused (number_of r)

-- by value and over a lent table.
abbrev pub done_in_numbers : {G : Type 0} → Reply (Unit {0}) G → Answer G
done_in_numbers a = answer_with (done a.told) a.next
