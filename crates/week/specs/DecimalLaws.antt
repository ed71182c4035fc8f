-- For code that reads a number digit by digit: what holds before the digit at i (`Reading`), with one law for each way the digit may go.
use Rattle.std.specs.Prelude.{◌≡◌, ℕ, suc, ◌+◌, ◌^◌, ◌<◌, ◌≤◌, ◌==◌, true, false, List, ◌∷◌, length, drop, Some, None, slice_index, refl}
use Rattle.std.specs.Char.{is_ascii_digit}
use Rattle.std.proofs.Common.{sym, ◌∙◌, ap, drop-cons}
use Rattle.std.proofs.Math.Numerals.{add-one}
use native.Mathlib.Omega.{arith}
use borrow.Author.Tests.{lt-ltb, le-ltb}
use Rattle.std.proofs.Math.Seq.{drop-length}
use Rattle.week.specs.Decimal.{with_digit, read_on, read_number}

pub record Reading (text : List ℕ) (number i : ℕ) : Type 0 where
  pub within : i ≤ length text
  pub left : read_on number (drop i text) ≡ read_number text

pub reading_nothing : (text : List ℕ) → true ≡ (length text == 0) → None ≡ read_number text
unfolding read_number
reading_nothing text h = rw (sym h) refl

pub reading_start : (text : List ℕ) → false ≡ (length text == 0) → Reading text 0 0
unfolding read_number
reading_start text h = record { within = omega arith; left = rw (sym h) refl }

module _ {text : List ℕ} {number i : ℕ} (h : Reading text number i) where
  pub reading_done : length text ≤ i → Some number ≡ read_number text
  unfolding read_on
  reading_done end =
      let all : i ≡ length text = let w = h.within in omega arith in
      rw (all, drop-length text) at h.left

  module _ (more : i < length text) where
    next : read_on number (slice_index text i ∷ drop (suc i) text) ≡ read_number text
    next = ap (read_on number) (sym (drop-cons text i 0 more)) ∙ h.left

    -- another byte than a digit,
    pub reading_other : false ≡ is_ascii_digit (slice_index text i) → None ≡ read_number text
    unfolding read_on
    reading_other other = rw (sym other) at next

    module _ (digit : true ≡ is_ascii_digit (slice_index text i)) where
      -- or a digit that makes the number too large,
      pub reading_over : 2 ^ 64 ≤ with_digit number (slice_index text i) → None ≡ read_number text
      unfolding read_on
      reading_over over =
          let large = le-ltb (with_digit number (slice_index text i)) (2 ^ 64) over in
          rw (sym digit, large) at next

      -- or one more digit.
      pub reading_on : with_digit number (slice_index text i) < 2 ^ 64 → Reading text (with_digit number (slice_index text i)) (i + 1)
      unfolding read_on
      reading_on fits = record {
        within = omega arith;
        left =
            let a : i + 1 ≡ suc i = add-one i in
            let small = lt-ltb (with_digit number (slice_index text i)) (2 ^ 64) fits in
            rw a (rw (sym digit, small) at next);
      }
