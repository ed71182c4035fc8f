-- `slice_check` meets its contract: the list's check, and then the window's.
use Rattle.std.proofs.Common.{◌∙◌, ap, ap₂}
use Rattle.lists.specs.Checks.{first_of}
use Rattle.lists.specs.CheckedAnswers.{first_and}
use Rattle.lists.specs.Replies.{refusal_in}
use Rattle.lists.proofs.checks.slice_check.Goals as goal

pub returns : goal.returns
returns c =
    ap refusal_in c.and.ensures ∙ first_and c.list_check.result c.window_check.result
    ∙ ap₂ first_of c.list_check.ensures c.window_check.ensures
