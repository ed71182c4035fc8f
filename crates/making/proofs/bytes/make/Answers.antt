-- `make` meets its contract: the kind is looked at first, then the seed's length, and each way out is its law.
use Rattle.std.proofs.Common.{◌≤◌, sym, ◌∙◌, arith}
use Rattle.random.specs.KindsLaws.{number_small}
use Rattle.making.specs.MakeLaws.{made_unknown, made_other_length, made_whole}
use Rattle.making.proofs.bytes.make.Goals as goal

pub returns-in_default : goal.returns-in_default
returns-in_default c = c.refused_making.ensures ∙ sym (made_unknown _ _ c.in_default.ensures.1)

pub returns-in-Ok-of_kind : goal.returns-in-Ok-of_kind
returns-in-Ok-of_kind c =
    let small : c.args.kind ≤ 3 = let most = number_small c.in-Ok.kind in omega (arith, most, c.in-Ok.ensures) in
    let whole = c.in-Ok-of_kind.ensures in
    rw (whole.1, c.in-Ok.ensures) (sym (made_whole _ _ small (rw c.in-Ok.ensures at whole.0)))

pub returns-in-Err : goal.returns-in-Err
returns-in-Err c =
    let small : c.args.kind ≤ 3 = let most = number_small c.in-Ok.kind in omega (arith, most, c.in-Ok.ensures) in
    c.refused_making-in-Err.ensures ∙ sym (made_other_length _ _ small (λ e. c.in-Err.ensures (e ∙ sym (rw c.in-Ok.ensures))))
