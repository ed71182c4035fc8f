-- `number_of` meets its contract: settled by one word, refused, and settled by more words.
use mathlib.Core.Path.{sym}
use Rattle.vrd_ffi.specs.PackedLaws.{says_one, says_refused, says_more}
use Rattle.vrd_ffi.proofs.drawing.number_of.Goals as goal

pub returns-then-p-lt-MISS : goal.returns-then-p-lt-MISS
returns-then-p-lt-MISS c = sym (says_one _ c.if-p-lt-MISS.true)

pub returns-then-high-eq1 : goal.returns-then-high-eq1
returns-then-high-eq1 c = sym (says_refused _ c.if-p-lt-MISS.false c.if-high-eq1.true)

pub returns : goal.returns
returns c = sym (says_more _ c.if-p-lt-MISS.false c.if-high-eq1.false)
