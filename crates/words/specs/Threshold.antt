-- The least remainder of a good word, 2^32 mod r, as the code works it out; and the word whose remainder is above r, which is good
-- without it.
use Rattle.std.specs.Prelude.{cond, ℕ, ◌%◌, ◌^◌, eqb}

-- 2^32 mod r; and 0 where r is 0, for which no word is good.
abbrev pub threshold : ℕ → ℕ
threshold r = cond (eqb r 0) 0 (2 ^ 32 % r)
