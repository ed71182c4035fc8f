-- `pcg64::of_bytes` meets its contract: two words of 8 bytes are the number of 16.
use Rattle.std.proofs.Common.{◌≡◌, ℕ, ◌+◌, ◌*◌, ◌/◌, ◌^◌, List, ◌∙◌, ap₂, arith}
use Rattle.wrapping.specs.Bytes.{little}
use Rattle.wrapping.specs.BytesLaws.{little_joined}
use Rattle.pcg.specs.Lcg.{low_bit_set}
use Rattle.pcg.specs.Pcg64.{seeded}
use Rattle.pcg.proofs.pcg64.of_bytes.Goals as goal

-- the two words of a number of 16 bytes, and the same with the low bit set
joined : (s : List ℕ) (i : ℕ) → little 8 s (i + 8) * 2 ^ 64 + little 8 s i ≡ little 16 s i
joined s i = rw (little_joined 8 8 s i) (omega arith)

joined_odd : (s : List ℕ) (i : ℕ) → little 8 s (i + 8) * 2 ^ 64 + (little 8 s i / 2 * 2 + 1) ≡ low_bit_set (little 16 s i)
joined_odd s i = rw (little_joined 8 8 s i) (omega arith)

pub returns : goal.returns
returns c =
    let s = c.args.seed.now in
    c.from_seed_stream.ensures
    ∙ rw (c.le_u64-4.ensures, c.le_u64-3.ensures, c.le_u64-2.ensures, c.le_u64.ensures)
    (ap₂ seeded (joined s 0) (joined_odd s 16))
