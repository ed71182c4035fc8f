-- A single draw's answer in one number: the value alone where one word settled it, as it nearly always does; otherwise, from 2^32 on, the
-- value with the words used in front, or, with 1 in front, the number of the refusal.
use Rattle.std.specs.Prelude.{ℕ, ◌+◌, ◌*◌, ◌/◌, ◌%◌, ◌^◌, ◌<◌, cond, List, ◌≡◌, ltb, eqb}
use Rattle.words.specs.Draw.{bounded_by}
use Rattle.words.specs.Refusal as refusal
use Rattle.words.specs.Outcomes.{raised}
use Rattle.vrd_ffi.specs.declared.answers.Number.{Number}
use Rattle.lent_state.specs.Answers.{told, at_boundary}
use Rattle.vrd_ffi.specs.Handed.{number, drawn_by}

-- what such a number says
unfoldable pub unpacked : ℕ → Number
unpacked p =
    cond (ltb p (2 ^ 32)) (number p 1 refusal.answered)
    (cond (eqb (p / 2 ^ 32) 1) (number 0 0 (p % 2 ^ 32)) (number (p % 2 ^ 32) (p / 2 ^ 32) refusal.answered))

-- what the code builds of an answer, `least` added to its value
unfoldable pub packed : (refusal value used least : ℕ) → ℕ
packed n v u least =
    cond (eqb n refusal.answered) (cond (eqb u 1) ((least + v) % 2 ^ 32) (u * 2 ^ 32 + (least + v) % 2 ^ 32)) (2 ^ 32 + n)

-- a draw below r, with `least` added, has this answer,
abbrev pub Drew : (s t : List ℕ) (r budget least : ℕ) → Number → List ℕ → List ℕ → Type 0
Drew s t r budget least a s' t' =
    told a s' t' ≡ at_boundary s t (number 0 0 refusal.kind) (drawn_by (λ w. raised least (bounded_by w r budget)))

-- or the answer that a number says
abbrev pub Draws : (s t : List ℕ) (r budget least p : ℕ) → List ℕ → List ℕ → Type 0
Draws s t r budget least p s' t' = Drew s t r budget least (unpacked p) s' t'

-- where it is answered, its value is below least + r
abbrev pub Below : (r least p : ℕ) → Type 0
Below r least p = (unpacked p).refusal ≡ refusal.answered → (unpacked p).value < least + r
