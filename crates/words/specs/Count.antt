-- How many of the numbers below n pass a test. The definition stays shut, so that no proof elsewhere counts through 2^32 of them: its two
-- rules say all of it.
use Rattle.std.specs.Prelude.{◌≡◌, refl, Bool, cond, ℕ, zero, suc, ◌+◌}

pub count : (ℕ → Bool) → ℕ → ℕ
count test zero = 0
count test (suc n) = cond (test n) 1 0 + count test n

pub count_none : (test : ℕ → Bool) → count test 0 ≡ 0
unfolding count
count_none test = refl

pub count_next : (test : ℕ → Bool) (n : ℕ) → count test (suc n) ≡ cond (test n) 1 0 + count test n
unfolding count
count_next test n = refl
