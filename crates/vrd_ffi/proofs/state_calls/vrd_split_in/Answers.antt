-- `vrd_split_in` meets its contract: an unknown kind, refused by the library, and answered.
use Rattle.std.proofs.Common.{sym, ap, arith}
use Rattle.words.specs.Numbers.{refusal_in}
use Rattle.words.specs.NumbersLaws.{number_positive}
use Rattle.vrd_ffi.specs.CallLaws.{split_unknown, split_refused, split_answered}
use Rattle.vrd_ffi.proofs.state_calls.vrd_split_in.Goals as goal

pub returns-then-state-gt3 : goal.returns-then-state-gt3
returns-then-state-gt3 c = split_unknown _ _ c.if-state-gt3.true

pub returns-in-Some : goal.returns-in-Some
returns-in-Some c =
    let divided = rw c.engine_in.ensures at c.split_in-d.ensures in
    let number = ap refusal_in c.in-Some.is in
    let some = number_positive c.in-Some.refusal in
    rw (c.number.ensures, sym number)
    (split_refused _ _ c.if-state-gt3.false _ divided (λ z. omega (arith, some, number, z)))

pub returns : goal.returns
returns c =
    let divided = rw c.engine_in.ensures at c.split_in-d.ensures in
    split_answered _ _ c.if-state-gt3.false _ divided (ap refusal_in c.in_default.is) _ _ c.write.ensures c.begin.ensures
