-- The exports' answers: how each is put together, what it is where the call is refused, and what is handed out of the library's answer by
-- value.
use Rattle.std.specs.Prelude.{ℕ, ◌≤◌, eqb, ℤ, Float, Bool, cond, List, Result, ◌≡◌}
use Rattle.std.specs.Float.Ieee.{of_bits}
use Rattle.std.specs.Float.{binary32, binary64}
use Rattle.words.specs.declared.outcome.Outcome.{Outcome}
use Rattle.words.specs.Draw.{Words}
use Rattle.words.specs.Refusal as refusal
use Rattle.random.specs.Generator.{words_of}
use Rattle.random.specs.declared.backend.Random.{Random}
use Rattle.random.specs.declared.engine.Engine.{Engine}
use Rattle.source.specs.declared.Drawn.{Drawn}
use Rattle.bounded.specs.Answers as answers
use Rattle.bounded.specs.declared.answers.Answer.{Answer}
use Rattle.spans.specs.IntAnswers as spans
use Rattle.spans.specs.declared.counting.IntOutcome.{IntOutcome}
use Rattle.words.specs.declared.refusal.Refusal.{Refusal}
use Rattle.words.specs.declared.reply.Given.{Given}
use Rattle.words.specs.Numbers.{numbered}
use Rattle.spans.specs.IntAnswers.{IntAnswer}
use Rattle.lists.specs.Choosing.{Chosen}
use Rattle.lists.specs.Slicing.{SliceStart}
use Rattle.floats.specs.Intervals.{refusal_of}
use Rattle.floats.specs.declared.intervals.Uniform.{Uniform}
use Rattle.floats.specs.declared.intervals.Uniform.TheVariants as uniform
use Rattle.float_draws.specs.Coins.{Flip}
use Rattle.float_draws.specs.declared.intervals.Spread.{Spread}
use Rattle.float_draws.specs.declared.units.Fraction.{Fraction}
use Rattle.making.specs.Make.{Made}
use Rattle.parts.specs.OwnParts.{own_parts}
use Rattle.parts.specs.Splitting.{Divided}
use Rattle.vrd_ffi.specs.declared.answers.Choice.{Choice}
use Rattle.vrd_ffi.specs.declared.answers.Coin.{Coin}
use Rattle.vrd_ffi.specs.declared.answers.Integer.{Integer}
use Rattle.vrd_ffi.specs.declared.answers.Number.{Number}
use Rattle.vrd_ffi.specs.declared.answers.Number32.{Number32}
use Rattle.vrd_ffi.specs.declared.answers.Number64.{Number64}
use Rattle.vrd_ffi.specs.declared.answers.SignedWord.{SignedWord}
use Rattle.vrd_ffi.specs.declared.answers.Word.{Word}
use Rattle.lent_state.specs.Answers.{Told, Reply, reply, gives, of_known}
use Rattle.lent_state.specs.Placing.{placed}
use Rattle.lent_state.specs.State.{kind_in, generator_in, state_with, state_of}

-- ---- words

-- a word, put together
abbrev pub word : (value refusal : ℕ) → Word
word v n = record { value = v; refusal = n }

-- a signed word
abbrev pub signed_word : (value : ℤ) (refusal : ℕ) → SignedWord
signed_word v n = record { value = v; refusal = n }

-- the library's word, of 32 bits or of 64,
abbrev pub word_handed : Drawn ℕ Random → Reply Word
word_handed d = gives (word d.word 0) d.next

-- and read as signed, handed out
abbrev pub signed_of64 : Drawn ℤ Random → Reply SignedWord
signed_of64 d = gives (signed_word d.word 0) d.next

-- ---- numbers drawn within a budget

-- a number, put together
abbrev pub number : (value used refusal : ℕ) → Number
number v u n = record { value = v; used = u; refusal = n }

-- a signed number
abbrev pub integer : (value : ℤ) (used refusal : ℕ) → Integer
integer v u n = record { used = u; refusal = n; value = v }

-- an entry and its place
abbrev pub choice : (place value used refusal : ℕ) → Choice
choice p v u n = record { place = p; value = v; used = u; refusal = n }

-- the library's number,
abbrev pub number_of : Answer Random → Reply Number
number_of a = reply a.refusal (number a.value a.used a.refusal) a.next

-- its signed number,
abbrev pub integer_of : IntAnswer Random → Reply Integer
integer_of a = reply a.refusal (integer a.value a.used a.refusal) a.next

-- and its choice, handed out
abbrev pub choice_of : Chosen Random → Reply Choice
choice_of a = reply a.refusal (choice a.place a.value a.used a.refusal) a.next

-- the value is the start
abbrev pub start_of : SliceStart Random → Reply Number
start_of a = reply a.refusal (number a.start a.used a.refusal) a.next

-- what the library's call tells of a start, as the code hands it out
abbrev pub start_told : Result (Given ℕ) Refusal → Number
start_told told = let o = numbered told in number o.value o.used o.refusal

-- of a draw's outcome over the words of the generator
abbrev pub drawn_by : (Words → Outcome) → Random → Reply Number
drawn_by by g = number_of (answers.answer_from g (by (words_of g)))

-- and of a signed one
abbrev pub counted_by : (Words → IntOutcome) → Random → Reply Integer
counted_by by g = integer_of (spans.int_answer_from g (by (words_of g)))

-- ---- floats

-- 0.0 in 32 bits,
abbrev pub zero32 : Float
zero32 = of_bits binary32 0

-- and in 64 bits
abbrev pub zero64 : Float
zero64 = of_bits binary64 0

-- a float of 32 bits, put together
abbrev pub number32 : (value : Float) (refusal : ℕ) → Number32
number32 v n = record { value = v; refusal = n }

-- a float of 64 bits
abbrev pub number64 : (value : Float) (refusal : ℕ) → Number64
number64 v n = record { value = v; refusal = n }

-- a coin
abbrev pub coin : (value : Bool) (used refusal : ℕ) → Coin
coin v u n = record { used = u; refusal = n; value = v }

-- the library's `float`,
abbrev pub float_of : Fraction Float Random → Reply Number32
float_of d = gives (number32 d.value 0) d.next

-- its `double`,
abbrev pub double_of : Fraction Float Random → Reply Number64
double_of d = gives (number64 d.value 0) d.next

-- and its `bool`, handed out
abbrev pub coin_of : Flip Random → Reply Coin
coin_of d = reply d.refusal (coin d.value d.used d.refusal) d.next

-- a number or the refusal's number, as one answer: refused, the number is 0
abbrev pub uniform_number : Uniform → Number64
uniform_number (uniform.Number v) = number64 v 0
uniform_number (uniform.Refused n) = number64 zero64 n

-- the library's `uniform`, handed out
abbrev pub spread_of : Spread Random → Reply Number64
spread_of d = reply (refusal_of d.answer) (uniform_number d.answer) d.next

-- ---- lists and buffers

-- an answer, and the list or the buffer as the call leaves it
pub record Listed (A : Type 0) : Type 0 where
  pub answer : A
  pub list : List ℕ

-- put together
abbrev pub listed : {A : Type 0} → A → List ℕ → Listed A
listed a l = record { answer = a; list = l }

-- ---- generators made

-- what the library made of bytes; refused, nothing changes
abbrev pub made : List ℕ → List ℕ → Made → Told ℕ
made s t m = placed s t m.refusal m.generator

-- ---- two generators of one: the refusal, and both states

-- the refusal, the parent and the child
pub record Halves : Type 0 where
  pub refusal : ℕ
  pub parent : List ℕ
  pub child : List ℕ

-- put together
abbrev pub halves : ℕ → List ℕ → List ℕ → Halves
halves n a b = record { refusal = n; parent = a; child = b }

-- the child is written, to a state that is made anew, where the call is answered
abbrev pub divided : List ℕ → List ℕ → Divided Engine → Halves
divided s c d =
    cond (eqb d.refusal refusal.answered) (halves refusal.answered (state_with d.parent s) (state_of d.child))
    (halves d.refusal s c)

-- ---- two generators compared: refused where either kind is above 3

-- the refusal: the first kind is looked at first
abbrev pub same_refusal : List ℕ → List ℕ → ℕ
same_refusal s o = of_known s refusal.kind (of_known o refusal.kind refusal.answered)

-- two generators of known kinds, equal by their own parts
pub record Equal (s t o u : List ℕ) : Type 0 where
  pub first : kind_in s ≤ 3
  pub second : kind_in o ≤ 3
  pub own : own_parts (generator_in s t) ≡ own_parts (generator_in o u)
