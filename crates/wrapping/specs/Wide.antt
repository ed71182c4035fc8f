-- Numbers of 128 bits, held as a high and a low word of 64 bits (document 01, "Wrapping helpers").
use Rattle.std.specs.Prelude.{ℕ, ◌+◌, ◌*◌, ◌/◌, ◌%◌, ◌^◌, ◌<◌}
use Rattle.wrapping.specs.declared.wide.Wide.{Wide}

-- the number that two words hold
abbrev pub value : Wide → ℕ
value a = a.high * 2 ^ 64 + a.low

-- the two words that hold a number below 2 ^ 128
abbrev pub wide : ℕ → Wide
wide n = record { high = n / 2 ^ 64; low = n % 2 ^ 64 }

-- each of the two words has 64 bits
pub record SizedWide (a : Wide) : Type 0 where
  pub high : a.high < 2 ^ 64
  pub low : a.low < 2 ^ 64

-- the sum modulo 2 ^ 128
abbrev pub wide_sum : Wide → Wide → Wide
wide_sum a b = wide ((value a + value b) % 2 ^ 128)

-- the product modulo 2 ^ 128
abbrev pub wide_product : Wide → Wide → Wide
wide_product a b = wide ((value a * value b) % 2 ^ 128)
