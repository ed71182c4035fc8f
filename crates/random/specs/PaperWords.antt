-- The facade's words are those of the papers, kind by kind, at every place: the twister's are the paper's sequence, tempered, and those of
-- the other kinds are made of their state, stepped so many times. What the facade holds beside the kind's own parts plays no part.
use Rattle.std.specs.Prelude.{List, ◌≡◌, refl, ℕ, zero, suc, ◌+◌, ◌/◌, ◌^◌, min, length}
use Rattle.std.proofs.Common.{◌∙◌, ap}
use Rattle.mersenne_twister.specs.declared.MersenneTwister as twister_type
use Rattle.mersenne_twister.specs.SameWords as same
use Rattle.mersenne_twister.specs.Sequence.{temper, Follows, StartsWith}
use Rattle.mersenne_twister.specs.Table as twister
use Rattle.pcg.specs.declared.pcg32.Pcg32 as pcg32_type
use Rattle.pcg.specs.declared.pcg64.Pcg64 as pcg64_type
use Rattle.pcg.specs.Pcg32 as pcg32
use Rattle.pcg.specs.Pcg64 as pcg64
use Rattle.xoshiro.specs.declared.Xoshiro256PlusPlus as xoshiro_type
use Rattle.xoshiro.specs.Generator as xoshiro
use Rattle.random.specs.declared.backend.Backend.TheVariants.{Xoshiro256PlusPlus, MersenneTwister, Pcg32, Pcg64}
use Rattle.random.specs.declared.backend.Random.{Random}
use Rattle.random.specs.Generator.{gen, step, word_of, later, words_of}

-- n steps, one after the other
unfoldable pub times : {S : Type 0} → (S → S) → ℕ → S → S
times next zero s = s
times next (suc n) s = next (times next n s)

-- the facade goes on as the kind's own state does
own_steps : {S : Type 0} (next : S → S) (held : S → Random) → ((s : S) → step (held s) ≡ held (next s)) → (n : ℕ) (s : S)
    → later n (held s) ≡ held (times next n s)
unfolding later times
own_steps next held same zero s = refl
own_steps next held same (suc n) s = ap step (own_steps next held same n s) ∙ same (times next n s)

-- and so do its words
own_words_lem : {S : Type 0} (next : S → S) (word : S → ℕ) (held : S → Random) → ((s : S) → step (held s) ≡ held (next s))
    → ((s : S) → word_of (held s) ≡ word s) → (s : S) (n : ℕ) → words_of (held s) n ≡ word (times next n s)
unfolding words_of
own_words_lem next word held same gives s n = ap word_of (own_steps next held same n s) ∙ gives (times next n s)

-- ---- kind 0: the high halves of xoshiro256++'s words (Blackman and Vigna; document 01)

pub xoshiro_words_lem : (x : xoshiro_type.Xoshiro256PlusPlus) (t : twister_type.MersenneTwister) (n : ℕ)
    → words_of (gen (Xoshiro256PlusPlus x) t) n ≡ xoshiro.output (times xoshiro.stepped n x) / 2 ^ 32
unfolding step word_of
xoshiro_words_lem x t n =
    own_words_lem xoshiro.stepped (λ s. xoshiro.output s / 2 ^ 32) (λ s. gen (Xoshiro256PlusPlus s) t) (λ s. refl) (λ s. refl) x n

-- ---- kind 1: the sequence of Matsumoto and Nishimura, tempered

twister_steps : (t : twister_type.MersenneTwister) (n : ℕ) → later n (gen MersenneTwister t) ≡ gen MersenneTwister (twister.after n t)
unfolding later step twister.after
twister_steps t zero = refl
twister_steps t (suc n) = ap step (twister_steps t n)

-- the facade's words are those that the table gives,
pub twister_words_lem : (t : twister_type.MersenneTwister) (n : ℕ) → words_of (gen MersenneTwister t) n ≡ twister.word_of t n
unfolding words_of word_of twister.word_of
twister_words_lem t n = ap word_of (twister_steps t n)

-- THE THEOREM: from any 624 words and any position p, word n is the tempering of x_{min(p, 624) + n}, for every sequence x that starts with
-- these words and meets the paper's recurrence;
pub paper_words : (t : List ℕ) (p : ℕ) (x : ℕ → ℕ) → length t ≡ 624 → StartsWith t x → Follows x → (n : ℕ)
    → words_of (gen MersenneTwister (twister.held t p)) n ≡ temper (x (min p 624 + n))
paper_words t p x long starts follows n = twister_words_lem (twister.held t p) n ∙ same.words t p x long starts follows n

-- ---- kind 2: the words of PCG-XSH-RR-64/32 (O'Neill)

pub pcg32_words_lem : (p : pcg32_type.Pcg32) (t : twister_type.MersenneTwister) (n : ℕ)
    → words_of (gen (Pcg32 p) t) n ≡ pcg32.word_of (times pcg32.stepped n p)
unfolding step word_of
pcg32_words_lem p t n = own_words_lem pcg32.stepped pcg32.word_of (λ s. gen (Pcg32 s) t) (λ s. refl) (λ s. refl) p n

-- ---- kind 3: the high halves of the words of PCG-XSL-RR-128/64 (O'Neill; document 01)

pub pcg64_words_lem : (p : pcg64_type.Pcg64) (t : twister_type.MersenneTwister) (n : ℕ)
    → words_of (gen (Pcg64 p) t) n ≡ pcg64.word_of (times pcg64.stepped n p) / 2 ^ 32
unfolding step word_of
pcg64_words_lem p t n = own_words_lem pcg64.stepped (λ s. pcg64.word_of s / 2 ^ 32) (λ s. gen (Pcg64 s) t) (λ s. refl) (λ s. refl) p n
