-- Worked examples of the definitions (document 01): `int` over its full span, from -1 to 1 and from 5 to 5, and words at the ends of their
-- halves.
use Rattle.std.specs.Prelude.{◌≡◌, refl, ℤ, pos, neg_ℤ}
use Rattle.signed.specs.Signed.{signed_of, wrapped_sum, gap}

-- the least and the greatest number of 32 bits
abbrev least : ℤ
least = neg_ℤ (pos 2147483648)

-- the greatest number of 32 bits
abbrev greatest : ℤ
greatest = pos 2147483647

full_span : gap least greatest ≡ 0xFFFF_FFFF
unfolding gap
full_span = refl

full_first : wrapped_sum 32 least 0 ≡ least
unfolding wrapped_sum signed_of
full_first = refl

full_middle : wrapped_sum 32 least 0x8000_0000 ≡ pos 0
unfolding wrapped_sum signed_of
full_middle = refl

full_last : wrapped_sum 32 least 0xFFFF_FFFF ≡ greatest
unfolding wrapped_sum signed_of
full_last = refl

small_span : gap (neg_ℤ (pos 1)) (pos 1) ≡ 2
unfolding gap
small_span = refl

small_last : wrapped_sum 32 (neg_ℤ (pos 1)) 2 ≡ pos 1
unfolding wrapped_sum signed_of
small_last = refl

no_span : gap (pos 5) (pos 5) ≡ 0
unfolding gap
no_span = refl

-- past the greatest number the sum begins anew at the least
around : wrapped_sum 32 greatest 1 ≡ least
unfolding wrapped_sum signed_of
around = refl

lower_32 : signed_of 32 0x7FFF_FFFF ≡ greatest
unfolding signed_of
lower_32 = refl

upper_32 : signed_of 32 0x8000_0000 ≡ least
unfolding signed_of
upper_32 = refl

last_32 : signed_of 32 0xFFFF_FFFF ≡ neg_ℤ (pos 1)
unfolding signed_of
last_32 = refl

lower_64 : signed_of 64 0x7FFF_FFFF_FFFF_FFFF ≡ pos 9223372036854775807
unfolding signed_of
lower_64 = refl

upper_64 : signed_of 64 0x8000_0000_0000_0000 ≡ neg_ℤ (pos 9223372036854775808)
unfolding signed_of
upper_64 = refl

last_64 : signed_of 64 0xFFFF_FFFF_FFFF_FFFF ≡ neg_ℤ (pos 1)
unfolding signed_of
last_64 = refl
