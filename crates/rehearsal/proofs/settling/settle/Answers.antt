-- `settle` meets its contract: the invariant is `Settling`, and each way through the loop is one law of it.
use Rattle.std.proofs.Common.{sym, ◌∙◌, ◌<◌, length, arith}
use Rattle.rehearsal.specs.Settling.{settling_start, settling_few, settling_word, settling_good, settling_bad}
use Rattle.rehearsal.proofs.settling.settle.Goals as goal
use Rattle.rehearsal.proofs.settling.settle.Goals.{then-is_good, else-is_good}

pub loop-i-init : goal.loop-i-init
loop-i-init c = settling_start _ _ _

-- a value goes where a word was looked at already
pub bounds-list-settled : goal.bounds-list-settled
bounds-list-settled c = omega (arith, settling_few c.loop-i.invariant)

pub loop-i-preserved : goal.loop-i-preserved
loop-i-preserved c =
    let h = c.loop-i.invariant in
    let more : c.loop-i.i < length c.args.list.now = omega arith in
    let word = settling_word h more in
    let good = c.is_good.ensures in
    elim c.if-is_good.branch [
      | then-is_good w ↦
          let more_settled = settling_good h more word (sym good ∙ w.if-is_good.true) w.quotient.ensures w.bound_after-bound.ensures in
          rw (w.list-is, w.settled-is, w.bound-is) more_settled
      | else-is_good w ↦
          rw (w.list-is, w.settled-is, w.bound-is) (settling_bad h more word (sym good ∙ w.if-is_good.false))
    ]
