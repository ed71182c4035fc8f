-- `same_tables` meets its contract: the twister's own table is the whole table, and another kind's is none.
use mathlib.Core.Path.{◌∙◌, sym}
use Rattle.parts.specs.Decides.{decides_by}
use Rattle.parts.specs.OwnPartsLaws.{table_on}
use Rattle.parts.proofs.equality.same_tables.Goals as goal

pub returns : goal.returns
returns c =
    let a = c.args in
    let on = sym c.on_table.ensures ∙ c.if-not-on_table.false in
    let mine = table_on a.backend a.mt.now on in
    let other = table_on a.backend a.other.now on in
    decides_by (λ e. mine ∙ e ∙ sym other) (λ e. sym mine ∙ e ∙ other) c.same_words.ensures
