-- The definitions give the words that mt19937ar.c gives, and of a byte seed those that the original Rust gives, worked out here.
use Rattle.std.specs.Prelude.{◌≡◌, ℕ, suc, ◌%◌, ◌^◌, List, refl}
use Rattle.std.proofs.Common.{arith}
use Rattle.wrapping.specs.Bytes.{little}
use Rattle.mersenne_twister.specs.Sequence.{terms, times_a, joined, follow, temper, temper1, temper2, temper3, temper4, seed_step}
use Rattle.mersenne_twister.specs.Sequence.{seed_word}
use Rattle.mersenne_twister.specs.Table.{seeded, words_xored, folded, word_of}
use Rattle.mersenne_twister.specs.SameWords.{early_words}

-- the first words of the seed 5489, with which mt19937ar.c seeds itself where its user does not

word_0 : word_of (seeded 5489) 0 ≡ 3499211612
unfolding times_a joined follow seed_step seed_word temper temper1 temper2 temper3 temper4
word_0 = early_words 5489 0 (omega arith)

word_1 : word_of (seeded 5489) 1 ≡ 581869302
unfolding times_a joined follow seed_step seed_word temper temper1 temper2 temper3 temper4
word_1 = early_words 5489 1 (omega arith)

word_2 : word_of (seeded 5489) 2 ≡ 3890346734
unfolding times_a joined follow seed_step seed_word temper temper1 temper2 temper3 temper4
word_2 = early_words 5489 2 (omega arith)

-- 32 bytes: counted up from 1, and all equal, which fold to 0

counted : folded (terms suc 0 32) ≡ 0x20000000
unfolding terms little words_xored
counted = refl

equal : folded (terms (λ (k : ℕ). 7) 0 32) ≡ 0
unfolding terms little words_xored
equal = refl

-- 32 different bytes: the powers of 3 modulo 257, from 3 on
abbrev powers_of_three : List ℕ
powers_of_three = terms (λ (k : ℕ). 3 ^ suc k % 257) 0 32

-- the number that they fold to, and the first words after it

powers : folded powers_of_three ≡ 0x179d036e
unfolding terms little words_xored
powers = refl

folded_0 : word_of (seeded (folded powers_of_three)) 0 ≡ 2580345636
unfolding times_a joined follow seed_step seed_word temper temper1 temper2 temper3 temper4
folded_0 = rw powers (early_words 0x179d036e 0 (omega arith))

folded_1 : word_of (seeded (folded powers_of_three)) 1 ≡ 2178127612
unfolding times_a joined follow seed_step seed_word temper temper1 temper2 temper3 temper4
folded_1 = rw powers (early_words 0x179d036e 1 (omega arith))
