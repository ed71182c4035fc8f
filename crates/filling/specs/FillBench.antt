-- The rows of document 01's bench examples, those marked *, that fill bytes from given words, and the slip "Filling 3 bytes twice and
-- expecting the bytes of filling 6".
use Rattle.std.specs.Prelude.{◌≡◌, refl, List, [], ◌∷◌, ◌++◌, ℕ, ◌+◌, get_or}
use Rattle.std.proofs.Common.{sym, ◌∙◌, ap, arith}
use Rattle.mersenne_twister.specs.Sequence.{terms}
use Rattle.words.specs.Draw.{listed}
use Rattle.words.specs.Table.{Row, Holds, end, ◌&◌}
use Rattle.words.specs.Bench.{number}
use Rattle.filling.specs.Fill.{bytes_from, words_for}

-- n bytes from the given words of W bytes each
abbrev pub bytes : ℕ → List ℕ → ℕ → List ℕ → Row
bytes W words n says = record { Kind = List ℕ; gives = bytes_from W (listed words) n; says = says }

-- the rows
abbrev pub fill_bench : List Row
fill_bench =
    -- five bytes, 64-bit word 0x0807060504030201: 01 02 03 04 05 and one step
    bytes 8 (0x0807_0605_0403_0201 ∷ []) 5 (0x01 ∷ 0x02 ∷ 0x03 ∷ 0x04 ∷ 0x05 ∷ [])
    ∷ number (words_for 8 5) 1
    -- words 0x04030201 and 0x08070605: the same bytes, two words
    ∷ bytes 4 (0x0403_0201 ∷ 0x0807_0605 ∷ []) 5 (0x01 ∷ 0x02 ∷ 0x03 ∷ 0x04 ∷ 0x05 ∷ [])
    ∷ number (words_for 4 5) 2
    ∷ []

pub fill_bench_holds : Holds fill_bench
unfolding bytes_from terms
fill_bench_holds = refl & refl & refl & refl & end

-- ---- filling 3 bytes twice is not filling 6: with words of 8 bytes it takes two words, and begins the second word's bytes at place 3

-- two words against one
pub three_twice_takes_two : (words_for 8 3 + words_for 8 3 ≡ 2) × (words_for 8 6 ≡ 1)
three_twice_takes_two = (refl, refl)

-- two words of 8 bytes
abbrev given : List ℕ
given = 0x0807_0605_0403_0201 ∷ 0x1817_1615_1413_1211 ∷ []

-- the first 3 bytes, then 3 more from where the first call left the words
abbrev three_twice : List ℕ
three_twice = bytes_from 8 (listed given) 3 ++ bytes_from 8 (λ k. listed given (words_for 8 3 + k)) 3

pub three_twice_lem : three_twice ≡ 0x01 ∷ 0x02 ∷ 0x03 ∷ 0x11 ∷ 0x12 ∷ 0x13 ∷ []
unfolding bytes_from terms
three_twice_lem = refl

pub six_at_once : bytes_from 8 (listed given) 6 ≡ 0x01 ∷ 0x02 ∷ 0x03 ∷ 0x04 ∷ 0x05 ∷ 0x06 ∷ []
unfolding bytes_from terms
six_at_once = refl

-- they differ at place 3
pub three_twice_is_not_six : three_twice ≡ bytes_from 8 (listed given) 6 → ⊥
three_twice_is_not_six e =
    let place_three : ◌≡◌ {A = ℕ} 0x11 0x04 = ap (λ (l : List ℕ). get_or l 3 0) (sym three_twice_lem ∙ e ∙ six_at_once) in
    omega arith
