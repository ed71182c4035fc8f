-- The laws of numbers held as two words: their words are read off, and the words of a sum and of a product modulo 2 ^ 128.
use Rattle.std.specs.Prelude.{◌≡◌, ℕ, ◌+◌, ◌*◌, ◌/◌, ◌%◌, ◌^◌, ◌<◌, ◌≤◌}
use Rattle.std.proofs.Common.{sym, ap, ◌∙◌, div-add-mod', mod-lt, add_assoc, arith, pow_pos, shr_lt, shr-shr}
use Rattle.std.proofs.Math.Nat.{mul-add-mod_self_right, add_left_comm, mod-add-mod}
use Rattle.std.proofs.Math.Pow.{high, low, field, mod-mod-pow}
use Rattle.wrapping.specs.Wide.{value, wide, SizedWide, wide_sum, wide_product}
use Rattle.wrapping.specs.declared.wide.Wide.{Wide}

-- ---- a number and its words

-- a number is what its two words hold
pub value_wide : (n : ℕ) → value (wide n) ≡ n
value_wide n = div-add-mod' n (2 ^ 64)

-- of a number below 2 ^ 128 they have 64 bits each
pub sized_wide : (n : ℕ) → n < 2 ^ 128 → SizedWide (wide n)
sized_wide n h = record { high = shr_lt 64 64 h; low = mod-lt n (pow_pos 64) }

-- and the two words are read off the number
pub high_word : (a : Wide) → a.low < 2 ^ 64 → value a / 2 ^ 64 ≡ a.high
high_word a h = high a.high 64 h

pub low_word : (a : Wide) → a.low < 2 ^ 64 → value a % 2 ^ 64 ≡ a.low
low_word a h = low a.high 64 h

-- the bits above the low k of the high word
pub top_bits : (a : Wide) (k : ℕ) → a.low < 2 ^ 64 → value a / 2 ^ (64 + k) ≡ a.high / 2 ^ k
top_bits a k h = sym (shr-shr (value a) 64 k) ∙ rw (high_word a h)

-- ---- a number modulo 2 ^ 128, word by word: what the low words carry goes into the high one

words_are : (r : Wide) (h l : ℕ) → r.high ≡ (h + l / 2 ^ 64) % 2 ^ 64 → r.low ≡ l % 2 ^ 64
    → r ≡ wide ((h * 2 ^ 64 + l) % 2 ^ 128)
words_are r h l p q = (λ i. record { high = (p ∙ sym above) i; low = (q ∙ sym below) i })
  where
    above : (h * 2 ^ 64 + l) % 2 ^ 128 / 2 ^ 64 ≡ (h + l / 2 ^ 64) % 2 ^ 64
    above = field (h * 2 ^ 64 + l) 64 64 ∙ ap (λ (n : ℕ). n % 2 ^ 64) (omega arith)

    below : (h * 2 ^ 64 + l) % 2 ^ 128 % 2 ^ 64 ≡ l % 2 ^ 64
    below = mod-mod-pow (h * 2 ^ 64 + l) 64 64 ∙ mul-add-mod_self_right h (2 ^ 64) l

-- the words of a sum: the carry of the low words goes into the high one
pub sum_words : (r a b : Wide) → r.high ≡ (a.high + b.high + (a.low + b.low) / 2 ^ 64) % 2 ^ 64
    → r.low ≡ (a.low + b.low) % 2 ^ 64 → r ≡ wide_sum a b
sum_words r a b p q =
    words_are r (a.high + b.high) (a.low + b.low) p q ∙ ap (λ (n : ℕ). wide (n % 2 ^ 128)) (omega arith)

-- the carry out of a sum of two words is told by comparing the wrapped sum with either
pub carried : (s x y : ℕ) → x < 2 ^ 64 → y < 2 ^ 64 → s ≡ (x + y) % 2 ^ 64 → s < y → (x + y) / 2 ^ 64 ≡ 1
carried s x y hx hy e l = omega arith

pub uncarried : (s x y : ℕ) → x < 2 ^ 64 → y < 2 ^ 64 → s ≡ (x + y) % 2 ^ 64 → y ≤ s → (x + y) / 2 ^ 64 ≡ 0
uncarried s x y hx hy e l = omega arith

multiplied_out : (P a₁ a₀ b₁ b₀ : ℕ) → (a₁ * b₁ * P + (a₁ * b₀ + a₀ * b₁)) * P + a₀ * b₀ ≡ (a₁ * P + a₀) * (b₁ * P + b₀)
multiplied_out P a₁ a₀ b₁ b₀ = omega arith

-- the words of a product: the high one has the low words' upper product and both cross products
pub product_words : (r a b : Wide) → r.high ≡ (a.high * b.low + a.low * b.high + a.low * b.low / 2 ^ 64) % 2 ^ 64
    → r.low ≡ (a.low * b.low) % 2 ^ 64 → r ≡ wide_product a b
product_words r a b p q =
    words_are r (a.high * b.high * 2 ^ 64 + (a.high * b.low + a.low * b.high)) (a.low * b.low)
    (p ∙ sym (rw add_assoc (mul-add-mod_self_right (a.high * b.high) (2 ^ 64) _))) q
    ∙ ap (λ (n : ℕ). wide (n % 2 ^ 128)) (multiplied_out (2 ^ 64) a.high a.low b.high b.low)

-- products that were wrapped before they are summed leave the sum modulo 2 ^ 64 as it is
pub sum_of_wrapped : (x y z : ℕ) → (x % 2 ^ 64 + y % 2 ^ 64 + z) % 2 ^ 64 ≡ (x + y + z) % 2 ^ 64
sum_of_wrapped x y z =
    rw (add_assoc (x % 2 ^ 64), mod-add-mod, add_left_comm, mod-add-mod) (ap (λ (n : ℕ). n % 2 ^ 64) (omega arith))
