-- What the PCG generators share at every width w (O'Neill, "PCG: A Family of Simple Fast Space-Efficient Statistically Good Algorithms
-- for Random Number Generation", 2014): the linear congruential step under their output, streams, and seeding.
use Rattle.std.specs.Prelude.{ℕ, ◌+◌, ◌*◌, ◌/◌, ◌%◌, ◌^◌}

-- the step is an affine map of the state: s goes to a s + c, modulo 2 ^ w
abbrev pub affine : (w a c s : ℕ) → ℕ
affine w a c s = (s * a + c) % 2 ^ w

-- the increment of a stream: shifted left by 1, its top bit dropped, plus 1
abbrev pub increment : (w stream : ℕ) → ℕ
increment w stream = (stream * 2) % 2 ^ w + 1

-- seeding: state 0, one step, the seed added, one step
unfoldable pub seeded_state : (w a c seed : ℕ) → ℕ
seeded_state w a c seed = affine w a c ((affine w a c 0 + seed) % 2 ^ w)

-- a byte seed's stream has its low bit set, before it is shifted (document 01)
abbrev pub low_bit_set : ℕ → ℕ
low_bit_set n = n / 2 * 2 + 1
