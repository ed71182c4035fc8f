-- `split` meets its contract: the lent split told apart by its refusal, with the table joined again.
use Rattle.std.proofs.Common.{◌∙◌, ap, arith}
use Rattle.words.specs.Numbers.{refusal_in}
use Rattle.words.specs.NumbersLaws.{number_positive}
use Rattle.parts.specs.Splitting.{engine_split, split_in_numbers}
use Rattle.parts.specs.SplittingLaws.{split_answered, split_none}
use Rattle.parts.proofs.splitting.split.Goals as goal

pub returns-in-None : goal.returns-in-None
returns-in-None c =
    let told = c.split_in-s.ensures ∙ ap engine_split c.engine_of.ensures in
    rw c.with_table.ensures (split_answered _ (split_in_numbers c.split_in-s.result) told (ap refusal_in c.in-None.is))

pub returns-in-Some : goal.returns-in-Some
returns-in-Some c =
    let told = c.split_in-s.ensures ∙ ap engine_split c.engine_of.ensures in
    let number = ap refusal_in c.in-Some.is in
    let some = number_positive c.in-Some.refusal in
    rw c.zeros.ensures
    (rw number at (split_none c.args.g (split_in_numbers c.split_in-s.result) told (λ z. omega (arith, some, number, z))))
