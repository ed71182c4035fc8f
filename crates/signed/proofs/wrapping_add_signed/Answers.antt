-- `wrapping_add_signed` meets its contract: the words of the two are summed and reduced, and that word is read as signed.
use mathlib.Core.Path.{◌∙◌, ap}
use Rattle.std.specs.Prelude.{◌+◌, ◌%◌, ◌^◌}
use mir.Syntax.{w32}
use mir.Val.{of_z}
use Rattle.signed.specs.Signed.{signed_of, wrapped_sum}
use Rattle.signed.specs.Lifting.{word_sum}
use Rattle.signed.specs.Callers.{arg_read, result_read}
use Rattle.signed.proofs.wrapping_add_signed.Goals as goal

pub returns : goal.returns
unfolding wrapped_sum
returns c =
    let a = c in
    let bits = c.cast_unsigned.ensures ∙ ap (of_z w32) (arg_read a.ranges.x) in
    result_read w32 _ c.signed_u32.type_inv ∙ c.signed_u32.ensures
    ∙ ap (signed_of 32) (ap (λ n. (n + a.args.w) % 2 ^ 32) bits ∙ word_sum a.args.w a.ranges.x)
