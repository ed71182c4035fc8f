-- What each public call promises of its answer: the contracts of src/, by name.
use Rattle.std.specs.Prelude.{Bool, ◌≡◌, ◌*◌, ℕ, Option, Result, Ok, Err}
use Rattle.words.specs.declared.outcome.Outcome.{Outcome}
use Rattle.words.specs.declared.refusal.Refusal.{Refusal}
use Rattle.words.specs.declared.reply.Given.{Given}
use Rattle.words.specs.declared.reply.Reply.{Reply}
use Rattle.words.specs.Draw.{good, quotient, refused, gives}
use Rattle.words.specs.Numbers.{number_of, numbered, refusal_in}
use Rattle.words.specs.Outcomes.{raised_modulo}
use Rattle.words.specs.Threshold.{threshold}

-- the whole product
abbrev pub ProductPromise : ℕ → ℕ → ℕ → Type 0
ProductPromise w r p = p ≡ w * r

-- 2^32 mod r, and 0 where r is 0
abbrev pub ThresholdPromise : ℕ → ℕ → Type 0
ThresholdPromise r t = t ≡ threshold r

-- whether a word is good for r (the order, demand 3)
abbrev pub IsGoodPromise : ℕ → ℕ → Bool → Type 0
IsGoodPromise w r b = b ≡ good r w

-- what a good word draws (the order, demand 3)
abbrev pub QuotientPromise : ℕ → ℕ → ℕ → Type 0
QuotientPromise w r q = q ≡ quotient r w

-- "its number, value 0 and 0 words used" (document 01)
abbrev pub RefusedPromise : ℕ → Outcome → Type 0
RefusedPromise number o = o ≡ refused number

-- an answered call's value and words used
abbrev pub GivesPromise : ℕ → ℕ → Outcome → Type 0
GivesPromise value used o = o ≡ gives value used

-- n added to the value of an answer, modulo 2^32
abbrev pub RaisedPromise : ℕ → Outcome → Outcome → Type 0
RaisedPromise n o r = r ≡ raised_modulo n o

-- a refusal's number (document 01, "When the unit says no")
abbrev pub RefusalNumberPromise : Refusal → ℕ → Type 0
RefusalNumberPromise r number = number ≡ number_of r

-- what a check comes to, as a number: 0 where nothing is refused
abbrev pub CheckNumberPromise : Option Refusal → ℕ → Type 0
CheckNumberPromise r number = number ≡ refusal_in r

-- a value, the words used, and the generator after them
abbrev pub RepliesPromise : {T G : Type 0} → T → ℕ → G → Reply T G → Type 0
RepliesPromise value used next a = a ≡ record { next = next; told = Ok (record { value = value; used = used }) }

-- a refusal, and the generator that came in
abbrev pub RefusesPromise : {T G : Type 0} → Refusal → G → Reply T G → Type 0
RefusesPromise refusal next a = a ≡ record { next = next; told = Err refusal }

-- what a call tells, in document 01's numbers
abbrev pub NumberedPromise : Result (Given ℕ) Refusal → Outcome → Type 0
NumberedPromise told o = o ≡ numbered told

-- n added to the value, modulo 2^32, and the generator that stood there
abbrev pub RaisesPromise : {G : Type 0} → ℕ → Reply ℕ G → Reply ℕ G → Type 0
RaisesPromise n a r = (numbered r.told ≡ raised_modulo n (numbered a.told)) × (r.next ≡ a.next)
