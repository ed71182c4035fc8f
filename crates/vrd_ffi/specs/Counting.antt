-- A number drawn, counted from a signed one: as integers, and as the code works it out, modulo 2^32 and read back as signed.
use Rattle.std.specs.Prelude.{◌%◌, ◌^◌, eqb, ℤ, pos, ◌+ℤ◌, cond, Result}
use Rattle.words.specs.Refusal as refusal
use Rattle.signed.specs.Signed.{wrapped_sum}
use Rattle.words.specs.declared.refusal.Refusal.{Refusal}
use Rattle.words.specs.declared.reply.Given.{Given}
use Rattle.spans.specs.IntAnswers.{int_numbered}
use Rattle.vrd_ffi.specs.declared.answers.Integer.{Integer}
use Rattle.vrd_ffi.specs.declared.answers.Number.{Number}
use Rattle.vrd_ffi.specs.Handed.{integer}

-- a refusal has value 0
abbrev pub counted : ℤ → Number → Integer
counted min a = integer (cond (eqb a.refusal refusal.answered) (min +ℤ pos a.value) (pos 0)) a.used a.refusal

-- modulo 2^32, and read back as signed
unfoldable pub counted_modulo : ℤ → Number → Integer
counted_modulo min a =
    integer (cond (eqb a.refusal refusal.answered) (wrapped_sum 32 min (a.value % 2 ^ 32)) (pos 0)) a.used a.refusal

-- what the library's call tells, as the code hands it out
abbrev pub integer_told : Result (Given ℤ) Refusal → Integer
integer_told told = let o = int_numbered told in integer o.value o.used o.refusal
