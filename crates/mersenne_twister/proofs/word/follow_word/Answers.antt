-- `follow_word` meets its contract: the two masks cut out the upper bit and the lower 31 bits.
use Rattle.std.proofs.Common.{◌≡◌, ℕ, ◌+◌, ap, ◌∙◌, ap₂, arith}
use lib.Bits.{bit_and, bit_xor, and_le_r, and_mask, and_high}
use Rattle.mersenne_twister.specs.Sequence.{times_a, joined, follow}
use Rattle.mersenne_twister.proofs.word.follow_word.Goals as goal

masks : (u l : ℕ) → bit_and u 0x80000000 + bit_and l 0x7fffffff ≡ joined u l
unfolding joined
masks u l = ap₂ ◌+◌ (and_high u 1 31) (and_mask l 31)

pub overflow_add-u : goal.overflow_add-u
overflow_add-u c = omega (arith, and_le_r c.args.u 0x80000000, and_le_r c.args.l 0x7fffffff)

pub returns : goal.returns
unfolding follow
returns c = ap (bit_xor c.args.m) (c.times_a.ensures ∙ ap times_a (masks c.args.u c.args.l))
