-- `words_of_64` meets its contract: each turn writes two words more, and one may be left after the last.
use Rattle.std.proofs.Common.{◌≡◌, ◌+◌, ◌*◌, ◌/◌, length, refl, arith}
use Rattle.filling.specs.FillLoop.{filling_start, filling_two, filling_last, filling_end}
use Rattle.filling.proofs.fill.words_of_64.Goals as goal

pub loop-turn-init : goal.loop-turn-init
loop-turn-init g c = filling_start _ _ _ _ _

pub loop-turn-preserved : goal.loop-turn-preserved
loop-turn-preserved g c =
    let on : 16 * (c.loop-turn.turn + 1) ≡ 16 * c.loop-turn.turn + 16 = omega arith in
    rw (on, c.put-in-loop-turn.ensures, c.put.ensures, c.next_u64-second.ensures, c.next_u64-first.ensures)
    (filling_two c.loop-turn.invariant _ _ _ refl refl refl (omega arith) (omega arith))

pub returns-then-n-i-ge8 : goal.returns-then-n-i-ge8
returns-then-n-i-ge8 g c =
    let here : length c.args.dest.now / 16 * 16 ≡ 16 * c.loop-turn.turn = omega arith in
    rw (c.put-then-n-i-ge8.ensures, c.next_u64-last.ensures, here)
    (filling_last c.loop-turn.invariant _ _ refl refl (omega arith) (omega arith))

pub returns : goal.returns
returns g c = filling_end c.loop-turn.invariant (omega arith)
