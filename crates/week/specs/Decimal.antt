-- A number out of its decimal digits: the digits from the left, each worth ten times the next; nothing but digits, at least one, and a
-- number of 64 bits.
use Rattle.std.specs.Prelude.{ℕ, ◌+◌, ◌-◌, ◌*◌, ◌^◌, ◌==◌, cond, List, [], ◌∷◌, length, Option, Some, None, nat_lt}
use Rattle.std.specs.Char.{is_ascii_digit}

-- the number with one digit more: '0' is 48
abbrev pub with_digit : ℕ → ℕ → ℕ
with_digit n byte = n * 10 + (byte - 48)

-- the number n with these digits more
unfoldable pub read_on : ℕ → List ℕ → Option ℕ
read_on n [] = Some n
read_on n (byte ∷ rest) =
    cond (is_ascii_digit byte) (cond (nat_lt (with_digit n byte) (2 ^ 64)) (read_on (with_digit n byte) rest) None) None

unfoldable pub read_number : List ℕ → Option ℕ
read_number text = cond (length text == 0) None (read_on 0 text)
