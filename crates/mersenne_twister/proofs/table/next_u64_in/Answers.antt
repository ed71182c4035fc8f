-- `next_u64_in` meets its contract: the high word is shifted clear of the low one, so `|` joins them.
use Rattle.std.proofs.Common.{◌≡◌, ℕ, ◌+◌, ◌*◌, ◌%◌, ◌^◌, ◌<◌, mod-eq_of_lt, arith}
use lib.Bits.{bit_or, or_shifted}
use Rattle.mersenne_twister.specs.Table.{stepped}
use Rattle.mersenne_twister.specs.DrawLaws.{drawn64_is}
use Rattle.mersenne_twister.proofs.table.next_u64_in.Goals as goal

joined : (h l : ℕ) → h < 2 ^ 32 → l < 2 ^ 32 → bit_or (h * 2 ^ 32 % 2 ^ 64) l ≡ h * 2 ^ 32 + l
joined h l a b =
    let clear : h * 2 ^ 32 < 2 ^ 64 = omega arith in
    rw (mod-eq_of_lt clear) (or_shifted h 32 l b)

pub returns : goal.returns
returns c =
    let high = c.rand_in-high in
    let low = c.rand_in-low in
    drawn64_is _ (stepped high.result high.new.mt) (stepped low.result low.new.mt) _ high.ensures low.ensures
    (joined high.result.word low.result.word (omega arith) (omega arith))
