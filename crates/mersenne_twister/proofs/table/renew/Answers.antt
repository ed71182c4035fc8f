-- `renew` meets its contract: the three runs, one after the other, and the last entry.
use Rattle.std.proofs.Common.{◌≡◌, ◌∙◌, arith}
use Rattle.mersenne_twister.specs.Table.{renewed}
use Rattle.mersenne_twister.specs.TableLaws.{renewed_more}
use Rattle.mersenne_twister.proofs.table.renew.Goals as goal

pub returns : goal.returns
returns c =
    let t = c.args.mt.now in
    let first : c.loop-i.mt ≡ renewed 227 t = c.loop-i.invariant ∙ rw (let end : c.loop-i.i ≡ 227 = omega arith in end) in
    let second : c.loop-i-2.mt ≡ renewed 454 t =
    c.loop-i-2.invariant t first ∙ rw (let end : c.loop-i-2.i ≡ 454 = omega arith in end) in
    let third : c.loop-i-3.mt ≡ renewed 623 t =
    c.loop-i-3.invariant t second ∙ rw (let end : c.loop-i-3.i ≡ 623 = omega arith in end) in
    rw c.renew_at-2.ensures (renewed_more t _ 623 _ _ third (omega arith) (omega arith))
