-- `same_in` meets its contract: own parts are equal where backends, positions and tables are, and each test that fails parts them.
use Rattle.std.proofs.Common.{◌≡◌, ◌∙◌, sym, rules}
use Rattle.parts.specs.Decides.{decides_no, decides_by}
use Rattle.parts.specs.OwnPartsLaws.{own_backend, own_position, own_table, own_same}
use Rattle.parts.proofs.equality.same_in.Goals as goal

pub returns-then-ne : goal.returns-then-ne
returns-then-ne c = decides_no (λ e. let b : c.args.a.backend ≡ c.args.b.backend = own_backend _ _ e in search rules)

pub returns-then-mti_in : goal.returns-then-mti_in
returns-then-mti_in c =
    decides_no (λ e. c.if-mti_in.true (c.mti_in.ensures ∙ own_position _ _ e ∙ sym c.mti_in-2.ensures))

pub returns : goal.returns
returns c =
    let backends : c.args.a.backend ≡ c.args.b.backend = search rules in
    let positions = sym c.mti_in.ensures ∙ c.if-mti_in.false ∙ c.mti_in-2.ensures in
    decides_by (own_same _ _ backends positions) (own_table _ _) c.same_tables.ensures
