-- `kind` meets its contract: the number of the backend's kind.
use Rattle.std.proofs.Common.{◌∙◌, ap}
use Rattle.random.specs.Kinds.{number_of}
use Rattle.parts.specs.KindLaws.{kind_number}
use Rattle.parts.proofs.read_out.kind.Goals as goal

pub returns : goal.returns
returns c = c.number.ensures ∙ ap number_of c.kind.ensures ∙ kind_number c.args.backend
