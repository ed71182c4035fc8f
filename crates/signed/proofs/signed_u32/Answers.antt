-- `signed_u32` meets its contract: std's cast is what the machine reads of a word.
use native.Mathlib.Omega.{arith}
use mathlib.Core.Path.{◌∙◌}
use mir.Syntax.{w32}
use Rattle.signed.specs.SignedLaws.{signed_is}
use Rattle.signed.specs.Callers.{result_read}
use Rattle.signed.proofs.signed_u32.Goals as goal

pub returns : goal.returns
returns c = result_read w32 _ c.cast_signed.type_inv ∙ c.cast_signed.ensures ∙ signed_is w32 c.args.w (omega arith)
