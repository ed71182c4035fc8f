-- `fill_bytes_in` meets its contract: the whole words, and the low bytes of one more where some room is left.
use mathlib.Core.Path.{ap}
use Rattle.std.specs.Prelude.{ℕ}
use Rattle.source.specs.declared.Drawn.{Drawn}
use Rattle.random.specs.declared.backend.Random.{Random}
use Rattle.random.specs.Generator.{own_of}
use Rattle.filling.specs.FillLaws.{filled_whole, filled_tail}
use Rattle.filling.proofs.fill.fill_bytes_in.Goals as goal

pub returns-then-few-eq0 : goal.returns-then-few-eq0
returns-then-few-eq0 c =
    filled_whole c.whole_words-next.ensures (rw c.width-width.ensures at c.if-few-eq0.true)

pub returns : goal.returns
unfolding own_of
returns c =
    let width = c.width-width.ensures in
    let word = ap (λ (d : Drawn ℕ Random). d.word) c.next_own-d.ensures in
    let next = ap (λ (d : Drawn ℕ Random). d.next) c.next_own-d.ensures in
    rw (c.put_few.ensures, width) (filled_tail c.whole_words-next.ensures _ _ (rw width at c.if-few-eq0.false) word next)
