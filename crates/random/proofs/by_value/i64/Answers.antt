-- `i64` meets its contract.
use mir.Syntax.{w64}
use Rattle.signed.specs.Callers.{result_read}
use Rattle.random.specs.WordsLaws.{i64_is}
use Rattle.random.proofs.by_value.i64.Goals as goal

pub returns : goal.returns
returns c =
    let word = c.u64-d in
    rw (result_read w64 _ c.signed_u64.type_inv, c.signed_u64.ensures) (i64_is _ word.result word.ensures)
