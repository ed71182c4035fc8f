-- `settled_by` meets its contract: a word that surely settles the draw, and any other.
use native.Mathlib.Omega.{arith}
use Rattle.vrd_ffi.specs.MovesLaws.{settles}
use Rattle.vrd_ffi.proofs.first_word.settled_by.Goals as goal

pub returns-then-p-r : goal.returns-then-p-r
returns-then-p-r c = λ z. settles _ _ _ (omega arith) c.product-p.ensures c.if-p-r.true

pub returns : goal.returns
returns c = λ z. absurd (omega (arith, z))
