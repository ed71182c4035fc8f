-- The sequence of MT19937, as M. Matsumoto and T. Nishimura define it in "Mersenne Twister: A 623-Dimensionally Equidistributed Uniform
-- Pseudo-Random Number Generator" (ACM TOMACS 8, 1998), section 2: a sequence of words, with no table and no position. A word of 32 bits is
-- a number below 2 ^ 32, its bits are the number's, and A is the paper's matrix.
use Rattle.std.specs.Prelude.{◌≡◌, ℕ, zero, suc, ◌+◌, ◌*◌, ◌/◌, ◌%◌, ◌^◌, ◌<◌, Bool, true, false, List, [], ◌∷◌, ◌++◌, drop, ◌==◌, bit_and}
use Rattle.std.specs.Prelude.{bit_xor, slice_index}

-- a where the test holds, and b otherwise
abbrev pub pick : {A : Type 0} → Bool → A → A → A
pick true a b = a
pick false a b = b

-- ---- the recurrence, with the paper's n = 624, m = 397, r = 31 and a = 9908B0DF

-- v A: the row v shifted right by one, and the last row of A added where the bit that is shifted out is 1
unfoldable pub times_a : (v : ℕ) → ℕ
times_a v = pick (v % 2 == 0) (v / 2) (bit_xor (v / 2) 0x9908b0df)

-- the upper bit of u above the lower 31 bits of l
unfoldable pub joined : (u l : ℕ) → ℕ
joined u l = u / 2 ^ 31 % 2 * 2 ^ 31 + l % 2 ^ 31

-- the term 624 places after u, where l stands one place after u, and m 397 places
unfoldable pub follow : (u l m : ℕ) → ℕ
follow u l m = bit_xor m (times_a (joined u l))

-- x meets the recurrence: x_{k+624} = x_{k+397} xor ((upper bit of x_k | lower bits of x_{k+1}) A) for k = 0, 1, ..
pub record Follows (x : ℕ → ℕ) : Type 0 where
  pub term : (k : ℕ) → x (k + 624) ≡ follow (x k) (x (k + 1)) (x (k + 397))

-- the 624 terms from which the recurrence starts are those words
pub record StartsWith (t : List ℕ) (x : ℕ → ℕ) : Type 0 where
  pub word : (k : ℕ) → k < 624 → x k ≡ slice_index t k

-- ---- such a sequence, made: 624 words stand in a row, and at each step the first leaves and the next term comes in at the end; x_k is
-- what stands first after k steps

-- one step
unfoldable pub moved : (t : List ℕ) → List ℕ
moved t = drop 1 t ++ follow (slice_index t 0) (slice_index t 1) (slice_index t 397) ∷ []

-- n steps
unfoldable pub moved_by : (n : ℕ) (t : List ℕ) → List ℕ
moved_by zero t = t
moved_by (suc n) t = moved_by n (moved t)

-- x_k
unfoldable pub sequence : (t : List ℕ) → ℕ → ℕ
sequence t k = slice_index (moved_by k t) 0

-- ---- the terms x_k .. x_{k+n-1} of any sequence

-- as a list
unfoldable pub terms : (x : ℕ → ℕ) (k n : ℕ) → List ℕ
terms x k zero = []
terms x k (suc n) = x k ∷ terms x (suc k) n

-- ---- the tempering in the paper's four steps, with u = 11, s = 7, b = 9D2C5680, t = 15, c = EFC60000, l = 18

-- y := x xor (x >> u)
unfoldable pub temper1 : (x : ℕ) → ℕ
temper1 x = bit_xor x (x / 2 ^ 11)

-- y := y xor ((y << s) and b)
unfoldable pub temper2 : (y : ℕ) → ℕ
temper2 y = bit_xor y (bit_and (y * 2 ^ 7 % 2 ^ 32) 0x9d2c5680)

-- y := y xor ((y << t) and c)
unfoldable pub temper3 : (y : ℕ) → ℕ
temper3 y = bit_xor y (bit_and (y * 2 ^ 15 % 2 ^ 32) 0xefc60000)

-- z := y xor (y >> l)
unfoldable pub temper4 : (y : ℕ) → ℕ
temper4 y = bit_xor y (y / 2 ^ 18)

-- the four steps in a row, on a word of 32 bits: what a number has above them is not looked at
unfoldable pub temper : (x : ℕ) → ℕ
temper x = temper4 (temper3 (temper2 (temper1 (x % 2 ^ 32))))

-- ---- the words of a seed: `init_genrand` of the authors' mt19937ar.c (2002)

-- the word at place i, from the word p before it
unfoldable pub seed_step : (p i : ℕ) → ℕ
seed_step p i = (1812433253 * bit_xor p (p / 2 ^ 30) + i) % 2 ^ 32

-- the words one after the other; word 0 is the seed itself
unfoldable pub seed_word : (s i : ℕ) → ℕ
seed_word s zero = s
seed_word s (suc i) = seed_step (seed_word s i) (suc i)
