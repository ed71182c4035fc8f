-- `quick_first` meets its contract: of each kind a word that settles the draw, and wherever it ends with nothing settled.
use native.Mathlib.Omega.{arith}
use Rattle.vrd_ffi.specs.MovesLaws.{xoshiro_moved, twister_ready, quick_hit, quick_miss}
use Rattle.vrd_ffi.proofs.first_word.quick_first.Goals as goal

pub returns-then-q-lt-MISS : goal.returns-then-q-lt-MISS
returns-then-q-lt-MISS c =
    let kind = c.if-kind-eq0.true in
    let drawn = rw c.xoshiro_in.ensures at c.next_u32-d.ensures in
    let moved = xoshiro_moved _ _ _ kind _ drawn c.put_small.ensures in
    quick_hit (omega (arith, kind)) moved c.settled_by-q.ensures c.if-q-lt-MISS.true

pub returns-then-kind-eq0 : goal.returns-then-kind-eq0
returns-then-kind-eq0 c = quick_miss

pub returns-then-mti-ge-END : goal.returns-then-mti-ge-END
returns-then-mti-ge-END c = quick_miss

pub returns-then-q-lt-MISS-2 : goal.returns-then-q-lt-MISS-2
returns-then-q-lt-MISS-2 c =
    let kind = c.if-kind-eq1.true in
    let position = c.position-mti.ensures in
    let moved = twister_ready _ _ _ kind _ position c.if-mti-ge-END.false _ c.temper_word.ensures c.put_position.ensures in
    quick_hit (omega (arith, kind)) moved c.settled_by-q-then-kind-eq1.ensures c.if-q-lt-MISS-2.true

pub returns-else-q-lt-MISS-2 : goal.returns-else-q-lt-MISS-2
returns-else-q-lt-MISS-2 c = quick_miss

pub returns-else-kind-eq1 : goal.returns-else-kind-eq1
returns-else-kind-eq1 c = quick_miss
