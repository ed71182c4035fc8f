-- `words::threshold` meets its contract: the Rust's form of 2^32 mod r.
use mathlib.Core.Path.{◌≡◌, sym}
use Prim.Native.Nat.{◌+◌, ◌-◌, ◌^◌}
use native.Mathlib.Omega.{arith}
use Rattle.words.proofs.ThresholdLaws.{threshold_zero, threshold_of_negative}
use Rattle.words.proofs.threshold.Goals as goal

pub returns-then-r-eq0 : goal.returns-then-r-eq0
returns-then-r-eq0 c = sym (threshold_zero c.args.r c.if-r-eq0.true)

pub returns : goal.returns
returns c = let r = c.args.r in
    let e : 4294967295 - r + 1 ≡ 2 ^ 32 - r = omega arith in
    rw e (sym (threshold_of_negative r (omega arith) (omega arith)))
