-- `char_in` meets its contract: a draw below 26, with 97 added.
use Rattle.std.proofs.Common.{arith}
use Rattle.bounded.specs.AnswerLaws.{raised_replies}
use Rattle.bounded.specs.Ranges.{char_by}
use Rattle.bounded.proofs.ranges.char_in.Goals as goal

pub returns : goal.returns
unfolding char_by
returns c =
    let drawn = c.bounded_in.ensures in
    raised_replies _ _ _ _ _ drawn.answer (λ z. omega (arith, drawn.small z)) c.raised.ensures
