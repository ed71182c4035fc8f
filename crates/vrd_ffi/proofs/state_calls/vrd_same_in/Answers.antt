-- `vrd_same_in` meets its contract: the first kind unknown, the second, and both known.
use Rattle.vrd_ffi.specs.CallLaws.{same_first_unknown, same_second_unknown, same_known}
use Rattle.vrd_ffi.proofs.state_calls.vrd_same_in.Goals as goal

pub returns-then-state-gt3 : goal.returns-then-state-gt3
returns-then-state-gt3 c = same_first_unknown _ _ _ _ c.if-state-gt3.true

pub returns-then-other-gt3 : goal.returns-then-other-gt3
returns-then-other-gt3 c = same_second_unknown _ _ _ _ c.if-state-gt3.false c.if-other-gt3.true

pub returns : goal.returns
returns c =
    let same = rw (c.engine_in-2.ensures, c.engine_in.ensures) at c.same_in-equal.ensures in
    same_known _ _ _ _ c.if-state-gt3.false c.if-other-gt3.false _ same
