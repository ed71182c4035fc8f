-- `words::is_good` meets its contract: each way out cites one law of the threshold.
use mathlib.Core.Path.{sym, ◌∙◌, ap}
use Prim.Native.Nat.{ℕ, ◌%◌, ◌^◌}
use native.Mathlib.Omega.{arith}
use lib.Dec.{leb}
use Rattle.words.proofs.ThresholdLaws.{none_for_zero, good_above, good_by_threshold}
use Rattle.words.proofs.is_good.Goals as goal

pub returns-then-low-bound : goal.returns-then-low-bound
returns-then-low-bound c = let p = c in
    let a = p.args in
    sym (good_above a.r a.w p.product-low.result p.product-low.ensures c.if-low-bound.true)

pub returns-then-r-eq0 : goal.returns-then-r-eq0
returns-then-r-eq0 c = let a = c.args in
    sym (none_for_zero a.r a.w c.if-r-eq0.true)

pub returns : goal.returns
returns c = let p = c in
    let a = p.args in
    ap (λ (least : ℕ). leb least (p.product-low.result % 2 ^ 32)) c.threshold-least.ensures
    ∙ sym (good_by_threshold a.r a.w p.product-low.result p.product-low.ensures (omega arith))
