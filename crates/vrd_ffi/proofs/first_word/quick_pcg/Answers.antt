-- `quick_pcg` meets its contract: of each kind a word that settles the draw, and wherever it ends with nothing settled.
use native.Mathlib.Omega.{arith}
use Rattle.vrd_ffi.specs.MovesLaws.{pcg32_moved, pcg64_moved, quick_hit, quick_miss}
use Rattle.vrd_ffi.proofs.first_word.quick_pcg.Goals as goal

pub returns-then-q-lt-MISS : goal.returns-then-q-lt-MISS
returns-then-q-lt-MISS c =
    let kind = c.if-kind-eq2.true in
    let drawn = rw c.pcg32_in.ensures at c.next_u32-d.ensures in
    let written = c.put_small.ensures in
    λ t. quick_hit (omega (arith, kind)) (pcg32_moved _ t _ kind _ drawn written) c.settled_by-q.ensures c.if-q-lt-MISS.true

pub returns-then-kind-eq2 : goal.returns-then-kind-eq2
returns-then-kind-eq2 c = λ t. quick_miss

pub returns-then-q-lt-MISS-2 : goal.returns-then-q-lt-MISS-2
returns-then-q-lt-MISS-2 c =
    let kind = c.if-kind-eq3.true in
    let drawn = rw c.pcg64_in.ensures at c.next_u32-d-then-kind-eq3.ensures in
    let written = c.put_small-then-q-lt-MISS-2.ensures in
    λ t. quick_hit (omega (arith, kind)) (pcg64_moved _ t _ kind _ drawn written) c.settled_by-q-then-kind-eq3.ensures c.if-q-lt-MISS-2.true

pub returns-else-q-lt-MISS-2 : goal.returns-else-q-lt-MISS-2
returns-else-q-lt-MISS-2 c = λ t. quick_miss

pub returns-else-kind-eq3 : goal.returns-else-kind-eq3
returns-else-kind-eq3 c = λ t. quick_miss
