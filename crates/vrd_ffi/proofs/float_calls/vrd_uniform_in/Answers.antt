-- `vrd_uniform_in` meets its contract: an unknown kind, a refused interval, and a number.
use Rattle.std.proofs.Common.{sym, ◌∙◌, ap, arith}
use Rattle.words.specs.Numbers.{refusal_in}
use Rattle.words.specs.NumbersLaws.{number_positive}
use Rattle.lent_state.specs.AnswersLaws.{unknown_kind}
use Rattle.vrd_ffi.specs.WordLaws.{spread_moved, spread_refused}
use Rattle.vrd_ffi.proofs.float_calls.vrd_uniform_in.Goals as goal

pub returns-then-state-gt3 : goal.returns-then-state-gt3
returns-then-state-gt3 c = unknown_kind _ _ _ _ c.if-state-gt3.true

pub returns-in-Some : goal.returns-in-Some
returns-in-Some c =
    let told = sym (ap refusal_in c.in-Some.is) ∙ c.interval_refusal.ensures in
    let some = number_positive c.in-Some.refusal in
    rw (c.number.ensures, told) (spread_refused _ _ c.if-state-gt3.false _ (λ z. omega (arith, some, told, z)))

pub returns : goal.returns
returns c =
    let none = sym c.interval_refusal.ensures ∙ ap refusal_in c.in_default.is in
    rw (c.uniform_number.ensures, c.uniform_of.ensures)
    (spread_moved _ _ c.if-state-gt3.false _ none c.move_u64-word.ensures)
