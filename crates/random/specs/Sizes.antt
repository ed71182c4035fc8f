-- Words have their size, whatever numbers a generator's parts are: a word of 32 bits is below 2^32, one of 64 bits below 2^64, and one of a
-- kind's own width has that many bytes. So what is true of draws from words of 32 bits is true of every generator, and no law of a call
-- asks for more.
use Rattle.std.specs.Prelude.{ℕ, zero, suc, ◌+◌, ◌*◌, ◌/◌, ◌%◌, ◌^◌, ◌<◌}
use Rattle.std.proofs.Common.{mod-lt, arith, lit<}
use Rattle.std.proofs.lemmas.Nat.{xor_lt}
use Rattle.wrapping.specs.RotateLaws.{rotate_right_lt}
use Rattle.wrapping.specs.Wide.{value}
use Rattle.mersenne_twister.specs.Bounds.{drawn_lt}
use Rattle.mersenne_twister.specs.declared.MersenneTwister as twister_type
use Rattle.mersenne_twister.specs.Table as twister
use Rattle.pcg.specs.declared.pcg32.Pcg32 as pcg32_type
use Rattle.pcg.specs.declared.pcg64.Pcg64 as pcg64_type
use Rattle.pcg.specs.Pcg32 as pcg32
use Rattle.pcg.specs.Pcg64 as pcg64
use Rattle.xoshiro.specs.declared.Xoshiro256PlusPlus as xoshiro_type
use Rattle.xoshiro.specs.Generator as xoshiro
use Rattle.random.specs.declared.backend.Backend.{Backend}
use Rattle.random.specs.declared.backend.Backend.TheVariants.{Xoshiro256PlusPlus, MersenneTwister, Pcg32, Pcg64}
use Rattle.random.specs.declared.backend.Random.{Random}
use Rattle.random.specs.Generator.{width_of, own_by, own_word, word_by, word_of, word64_by, word64_of, later, words_of, xor_of}

-- ---- the words of each kind

xoshiro_sized : (x : xoshiro_type.Xoshiro256PlusPlus) → xoshiro.output x < 2 ^ 64
unfolding xoshiro.output
xoshiro_sized x = mod-lt _ (lit< tt)

pcg32_sized : (p : pcg32_type.Pcg32) → pcg32.word_of p < 2 ^ 32
pcg32_sized p = rotate_right_lt 32 _ _ (lit< tt) (mod-lt _ (lit< tt))

pcg64_sized : (p : pcg64_type.Pcg64) → pcg64.word_of p < 2 ^ 64
pcg64_sized p =
    let n = value p.state in
    rotate_right_lt 64 _ (n / 2 ^ 122) (lit< tt) (xor_lt 64 (n / 2 ^ 64 % 2 ^ 64) (n % 2 ^ 64) (mod-lt _ (lit< tt)) (mod-lt _ (lit< tt)))

-- the high half of a word, and a word of two halves
half : {w : ℕ} → w < 2 ^ 64 → w / 2 ^ 32 < 2 ^ 32
half h = omega arith

both : {a b : ℕ} → a < 2 ^ 32 → b < 2 ^ 32 → a * 2 ^ 32 + b < 2 ^ 64
both h l = omega arith

-- ---- the words of a generator

own_by_lem : (b : Backend) (t : twister_type.MersenneTwister) → own_by b t < 2 ^ (8 * width_of b)
own_by_lem (Xoshiro256PlusPlus x) t = xoshiro_sized x
own_by_lem MersenneTwister t = drawn_lt t
own_by_lem (Pcg32 p) t = pcg32_sized p
own_by_lem (Pcg64 p) t = pcg64_sized p

word_by_lem : (b : Backend) (t : twister_type.MersenneTwister) → word_by b t < 2 ^ 32
word_by_lem (Xoshiro256PlusPlus x) t = half (xoshiro_sized x)
word_by_lem MersenneTwister t = drawn_lt t
word_by_lem (Pcg32 p) t = pcg32_sized p
word_by_lem (Pcg64 p) t = half (pcg64_sized p)

word64_by_lem : (b : Backend) (t : twister_type.MersenneTwister) → word64_by b t < 2 ^ 64
word64_by_lem (Xoshiro256PlusPlus x) t = xoshiro_sized x
word64_by_lem MersenneTwister t = both (drawn_lt t) (drawn_lt (twister.drawn t).next)
word64_by_lem (Pcg32 p) t = both (pcg32_sized (pcg32.stepped p)) (pcg32_sized p)
word64_by_lem (Pcg64 p) t = pcg64_sized p

-- what `rand` gives,
pub word_sized : (g : Random) → word_of g < 2 ^ 32
unfolding word_of
word_sized g = word_by_lem g.backend g.twister

-- at every place of the sequence,
pub words_sized : (g : Random) (k : ℕ) → words_of g k < 2 ^ 32
unfolding words_of
words_sized g k = word_sized (later k g)

-- what `u64` gives,
pub word64_sized : (g : Random) → word64_of g < 2 ^ 64
unfolding word64_of
word64_sized g = word64_by_lem g.backend g.twister

-- and the word of the kind's own width
pub own_sized : (g : Random) → own_word g < 2 ^ (8 * width_of g.backend)
unfolding own_word
own_sized g = own_by_lem g.backend g.twister

-- words XORed have 32 bits, as `pseudo` gives them
pub xor_sized : (g : Random) (n : ℕ) → xor_of (words_of g) n < 2 ^ 32
unfolding xor_of
xor_sized g zero = omega arith
xor_sized g (suc n) = xor_lt 32 _ _ (xor_sized g n) (words_sized g n)
