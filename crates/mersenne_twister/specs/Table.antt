-- MT19937 over a table of 624 words and a position in it, as the authors' mt19937ar.c keeps them (`mt`, `mti`): seeding, the twist in
-- place, draws.
use Rattle.std.specs.Prelude.{ℕ, zero, suc, ◌+◌, ◌*◌, ◌%◌, ◌^◌, min, List, bit_xor, nat_lt, slice_index, slice_set}
use Rattle.source.specs.declared.Drawn.{Drawn}
use Rattle.wrapping.specs.Bytes.{little}
use Rattle.mersenne_twister.specs.declared.MersenneTwister.{MersenneTwister}
use Rattle.mersenne_twister.specs.declared.table.Step.{Step}
use Rattle.mersenne_twister.specs.Sequence.{pick, follow, terms, seed_word, temper}

-- a table and a position, held together
abbrev pub held : (t : List ℕ) (p : ℕ) → MersenneTwister
held t p = record { mt = t; mti = p }

-- the position that is stored for one set by the caller (document 01)
abbrev pub stored_position : (p : ℕ) → ℕ
stored_position p = min p 624

-- ---- seeding: entry i is the word i of the seed, and the first draw twists (`init_genrand`)

-- the table of a seed
unfoldable pub seed_table : (s : ℕ) → List ℕ
seed_table s = terms (seed_word s) 0 624

-- the generator of a seed
abbrev pub seeded : (s : ℕ) → MersenneTwister
seeded s = held (seed_table s) 624

-- the same on a table that is there: the first n words of x are stored, one after another
unfoldable pub stored : (x : ℕ → ℕ) (n : ℕ) (t : List ℕ) → List ℕ
stored x zero t = t
stored x (suc n) t = slice_set (stored x n t) n (x n)

-- a generator seeded in place
abbrev pub seeded_in : (t : List ℕ) (s : ℕ) → MersenneTwister
seeded_in t s = held (stored (seed_word s) 624 t) 624

-- the seed of 32 bytes: its eight little-endian words, XORed (document 01)
unfoldable pub words_xored : (n : ℕ) (b : List ℕ) → ℕ
words_xored zero b = 0
words_xored (suc n) b = bit_xor (words_xored n b) (little 4 b (4 * n))

-- the number that a byte seed comes to
abbrev pub folded : (b : List ℕ) → ℕ
folded b = words_xored 8 b

-- ---- the twist in place: entry after entry is overwritten, so that from entry 227 on new entries are read, and entry 623 is made with the
-- NEW entry 0

-- entry i is overwritten with what follows from itself and the entries j and k, as they are then
abbrev pub renew_with : (t : List ℕ) (i j k : ℕ) → List ℕ
renew_with t i j k = slice_set t i (follow (slice_index t i) (slice_index t j) (slice_index t k))

-- entry i renewed: the entries one and 397 places on go round the end
unfoldable pub renew_at : (t : List ℕ) (i : ℕ) → List ℕ
renew_at t i = renew_with t i ((i + 1) % 624) ((i + 397) % 624)

-- the first n entries renewed
unfoldable pub renewed : (n : ℕ) (t : List ℕ) → List ℕ
renewed zero t = t
renewed (suc n) t = renew_at (renewed n t) n

-- the whole twist of a table; the position is the first entry
abbrev pub twisted_in : (t : List ℕ) → MersenneTwister
twisted_in t = held (renewed 624 t) 0

-- the twist of a generator
abbrev pub twisted : (g : MersenneTwister) → MersenneTwister
twisted g = twisted_in g.mt

-- ---- a draw (`genrand_int32`)

-- the entry p is tempered, and the position moves on
abbrev pub drawn_at : (t : List ℕ) (p : ℕ) → Drawn ℕ MersenneTwister
drawn_at t p = record { word = temper (slice_index t p); next = held t (p + 1) }

-- at position 624 or above the table is twisted first
unfoldable pub drawn_in : (t : List ℕ) (p : ℕ) → Drawn ℕ MersenneTwister
drawn_in t p = pick (nat_lt p 624) (drawn_at t p) (drawn_at (renewed 624 t) 0)

-- a draw from a generator
abbrev pub drawn : (g : MersenneTwister) → Drawn ℕ MersenneTwister
drawn g = drawn_in g.mt g.mti

-- two words as one, the high word first
unfoldable pub drawn64 : (g : MersenneTwister) → Drawn ℕ MersenneTwister
drawn64 g = record { word = (drawn g).word * 2 ^ 32 + (drawn (drawn g).next).word; next = (drawn (drawn g).next).next }

-- the same of a table and a position
abbrev pub drawn64_in : (t : List ℕ) (p : ℕ) → Drawn ℕ MersenneTwister
drawn64_in t p = drawn64 (held t p)

-- what a draw over a lent table answers, with the table that it leaves
abbrev pub stepped : (r : Step ℕ) (t : List ℕ) → Drawn ℕ MersenneTwister
stepped r t = record { word = r.word; next = held t r.mti }

-- ---- draws in a row

-- the generator after n draws
unfoldable pub after : (n : ℕ) (g : MersenneTwister) → MersenneTwister
after zero g = g
after (suc n) g = (drawn (after n g)).next

-- the word of draw k, counted from 0
unfoldable pub word_of : (g : MersenneTwister) (k : ℕ) → ℕ
word_of g k = (drawn (after k g)).word
