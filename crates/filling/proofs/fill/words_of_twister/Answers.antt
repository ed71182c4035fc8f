-- `words_of_twister` meets its contract: each turn writes one word more.
use Rattle.std.proofs.Common.{ℕ, ◌≡◌, ◌+◌, ◌*◌, ap, arith}
use Rattle.source.specs.declared.Drawn.{Drawn}
use Rattle.mersenne_twister.specs.declared.MersenneTwister.{MersenneTwister}
use Rattle.filling.specs.FillLoop.{filling_start, filling_more, filling_end}
use Rattle.filling.proofs.fill.words_of_twister.Goals as goal

pub loop-turn-init : goal.loop-turn-init
loop-turn-init c = filling_start _ _ _ _ _

pub loop-turn-preserved : goal.loop-turn-preserved
loop-turn-preserved c =
    let word = ap (λ (d : Drawn ℕ MersenneTwister). d.word) c.rand_in-d.ensures in
    let next = ap (λ (d : Drawn ℕ MersenneTwister). d.next) c.rand_in-d.ensures in
    let on : 4 * (c.loop-turn.turn + 1) ≡ 4 * c.loop-turn.turn + 4 = omega arith in
    rw (on, c.put.ensures) (filling_more c.loop-turn.invariant _ _ word next (omega arith) (omega arith))

pub returns : goal.returns
returns c = filling_end c.loop-turn.invariant (omega arith)
