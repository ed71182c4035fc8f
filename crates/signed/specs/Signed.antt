-- Signed numbers and words, over the integers (document 01: "i32 minimum, span worked out in i64, drawn word added modulo 2^32 and read
-- back as signed").
use Rattle.std.specs.Prelude.{cond, ℕ, suc, ◌-◌, ◌%◌, ◌^◌, ltb, ℤ, pos, negsuc, ◌+ℤ◌, ◌-ℤ◌}
use Rattle.std.proofs.Math.IntN.{sub_ℕ}

-- a word n of k bits read as signed: n itself in the lower half, and n - 2 ^ k in the upper half
unfoldable pub signed_of : (k n : ℕ) → ℤ
signed_of k n = cond (ltb n (2 ^ (k - 1))) (pos n) (sub_ℕ n (2 ^ k))

-- an integer modulo 2 ^ k; `negsuc n` is the integer -(n + 1)
abbrev pub word_of : (k : ℕ) → ℤ → ℕ
word_of k (pos n) = n % 2 ^ k
word_of k (negsuc n) = 2 ^ k - suc (n % 2 ^ k)

-- x + n modulo 2 ^ k, read back as signed
unfoldable pub wrapped_sum : (k : ℕ) → ℤ → ℕ → ℤ
wrapped_sum k x n = signed_of k (word_of k (x +ℤ pos n))

-- an integer, or 0 for one below zero
abbrev pub or_zero : ℤ → ℕ
or_zero (pos n) = n
or_zero (negsuc n) = 0

-- how far max is above min; 0 where it is below
unfoldable pub gap : (min max : ℤ) → ℕ
gap min max = or_zero (max -ℤ min)
