-- The laws of a generator as a sequence of words: advancing, and how the words of 32 bits, of 64 and of the kind's own width hang together.
use Rattle.std.specs.Prelude.{◌≡◌, refl, ℕ, zero, suc, ◌+◌, ◌*◌, ◌/◌, ◌^◌, ◌<◌}
use Rattle.std.proofs.Common.{sym, ◌∙◌, ap, add-zero, add-suc, add-one, arith}
use Rattle.std.proofs.Math.Path.{fun_ext}
use Rattle.mersenne_twister.specs.declared.MersenneTwister as twister_type
use Rattle.pcg.specs.declared.pcg32.Pcg32 as pcg32_type
use Rattle.random.specs.declared.backend.Backend.{Backend}
use Rattle.random.specs.declared.backend.Backend.TheVariants.{Xoshiro256PlusPlus, MersenneTwister, Pcg32, Pcg64}
use Rattle.random.specs.declared.backend.Random.{Random}
use Rattle.random.specs.Generator.{gen, step, step_by, width_of, own_word, word_of, word_by, word64_of, word64_by, steps64}
use Rattle.random.specs.Generator.{later, words_of, rand_of, u64_of, own_of}

-- ---- advancing

pub later_none : (g : Random) → later 0 g ≡ g
unfolding later
later_none g = refl

pub later_one : (n : ℕ) (g : Random) → later (n + 1) g ≡ step (later n g)
unfolding later
later_one n g = rw add-one

pub later_add : (m n : ℕ) (g : Random) → later (m + n) g ≡ later n (later m g)
unfolding later
later_add m zero g = rw add-zero
later_add m (suc n) g = rw add-suc (ap step (later_add m n g))

-- the words of a generator n words on are its own from place n
pub words_after : (n : ℕ) (g : Random) → words_of (later n g) ≡ (λ (k : ℕ). words_of g (n + k))
unfolding words_of
words_after n g = fun_ext (λ k. ap word_of (sym (later_add n k g)))

pub word_at : (n : ℕ) (g : Random) → word_of (later n g) ≡ words_of g n
unfolding words_of
word_at n g = refl

-- ---- the kind stays, and so does the width of its own word

width_by : (b : Backend) (t : twister_type.MersenneTwister) → width_of (step_by b t).backend ≡ width_of b
width_by (Xoshiro256PlusPlus x) t = refl
width_by MersenneTwister t = refl
width_by (Pcg32 p) t = refl
width_by (Pcg64 p) t = refl

pub width_after : (n : ℕ) (g : Random) → width_of (later n g).backend ≡ width_of g.backend
unfolding later step
width_after zero g = refl
width_after (suc n) g = width_by (later n g).backend (later n g).twister ∙ width_after n g

pub width_positive : (b : Backend) → 0 < width_of b
width_positive (Xoshiro256PlusPlus x) = omega arith
width_positive MersenneTwister = omega arith
width_positive (Pcg32 p) = omega arith
width_positive (Pcg64 p) = omega arith

-- ---- a word of the kind's own width is its word of 64 bits or of 32

own_by_lem : (b : Backend) (t : twister_type.MersenneTwister)
    → (width_of b ≡ 8 → u64_of (gen b t) ≡ own_of (gen b t)) × ((width_of b ≡ 8 → ⊥) → rand_of (gen b t) ≡ own_of (gen b t))
unfolding rand_of u64_of own_of own_word word_of word64_of later step
own_by_lem (Xoshiro256PlusPlus x) t = (λ e. refl, λ e. absurd (e refl))
own_by_lem MersenneTwister t = (λ e. absurd (omega arith), λ e. refl)
own_by_lem (Pcg32 p) t = (λ e. absurd (omega arith), λ e. refl)
own_by_lem (Pcg64 p) t = (λ e. refl, λ e. absurd (e refl))

pub own_wide : (g : Random) → width_of g.backend ≡ 8 → u64_of g ≡ own_of g
own_wide g = (own_by_lem g.backend g.twister).0

pub own_narrow : (g : Random) → (width_of g.backend ≡ 8 → ⊥) → rand_of g ≡ own_of g
own_narrow g = (own_by_lem g.backend g.twister).1

-- ---- a word of 64 bits in terms of words of 32

-- where the kind's own word has 64 bits, `rand` is its high half
half_by : (b : Backend) (t : twister_type.MersenneTwister) → steps64 b ≡ 1 → word_by b t ≡ word64_by b t / 2 ^ 32
half_by (Xoshiro256PlusPlus x) t e = refl
half_by MersenneTwister t e = absurd (omega arith)
half_by (Pcg32 p) t e = absurd (omega arith)
half_by (Pcg64 p) t e = refl

pub rand_is_high_half : (g : Random) → steps64 g.backend ≡ 1 → word_of g ≡ word64_of g / 2 ^ 32
unfolding word_of word64_of
rand_is_high_half g = half_by g.backend g.twister

-- the twister's 64-bit word is two words, the high one first; Pcg32's has the low one first
pub twister_high_first : (t : twister_type.MersenneTwister)
    → word64_of (gen MersenneTwister t) ≡ words_of (gen MersenneTwister t) 0 * 2 ^ 32 + words_of (gen MersenneTwister t) 1
unfolding word64_of words_of word_of later step
twister_high_first t = refl

pub pcg32_low_first : (p : pcg32_type.Pcg32) (t : twister_type.MersenneTwister)
    → word64_of (gen (Pcg32 p) t) ≡ words_of (gen (Pcg32 p) t) 1 * 2 ^ 32 + words_of (gen (Pcg32 p) t) 0
unfolding word64_of words_of word_of later step
pcg32_low_first p t = refl
