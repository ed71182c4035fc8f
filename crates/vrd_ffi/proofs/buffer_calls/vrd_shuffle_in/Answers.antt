-- `vrd_shuffle_in` meets its contract: an unknown kind, and the library's answer.
use Rattle.lent_state.specs.AnswersLaws.{unknown_kind}
use Rattle.shuffle.specs.Replies.{done_in_numbers}
use Rattle.vrd_ffi.specs.CallLaws.{list_shuffled}
use Rattle.vrd_ffi.proofs.buffer_calls.vrd_shuffle_in.Goals as goal

pub returns-then-state-gt3 : goal.returns-then-state-gt3
returns-then-state-gt3 c = unknown_kind _ _ _ _ c.if-state-gt3.true

pub returns : goal.returns
returns c =
    let done = rw c.engine_in.ensures at c.shuffle_in-a.ensures in
    let settled = rw c.done.ensures at c.number_from.ensures.state in
    rw (c.number_from.ensures.told, c.done.ensures)
    (list_shuffled _ _ c.if-state-gt3.false _ _ _ _ (done_in_numbers c.shuffle_in-a.result) _ done.0 done.1 settled)
