-- What each export promises of its answer, and of the state, the table, the list and the buffer that it leaves: by the one rule of
-- Answers.antt the library's call by value, of the generator that was lent. The contracts of src/, by name.
use Rattle.std.specs.Prelude.{ℕ, Float, ℤ, pos, length, false, List, ◌≡◌}
use Rattle.words.specs.Draw.{bounded_by}
use Rattle.words.specs.Refusal as refusal
use Rattle.wrapping.specs.Wide.{value}
use Rattle.wrapping.specs.declared.wide.Wide.{Wide}
use Rattle.xoshiro.specs.Seed as xoshiro
use Rattle.pcg.specs.Pcg32 as pcg32
use Rattle.pcg.specs.Pcg64 as pcg64
use Rattle.mersenne_twister.specs.Table as twister
use Rattle.random.specs.Generator.{later, words_of, rand_of, u64_of, i64_of, pseudo_of}
use Rattle.random.specs.Lent.{table_in}
use Rattle.bounded.specs.Ranges.{range_by, char_by}
use Rattle.spans.specs.Spans.{uint_by, int_by}
use Rattle.lists.specs.Choosing as choosing
use Rattle.lists.specs.Limit.{list_limit}
use Rattle.lists.specs.Slicing as slicing
use Rattle.shuffle.specs.Shuffle.{shuffle_by, shuffled}
use Rattle.filling.specs.Fill.{filled_bytes, fill_words}
use Rattle.float_draws.specs.Coins.{flip_from}
use Rattle.float_draws.specs.Spreads.{spread_from}
use Rattle.float_draws.specs.Units.{float_from, double_from}
use Rattle.making.specs.Make.{made_bytes, of_xoshiro, of_twister, of_pcg32, of_pcg64}
use Rattle.making.specs.Seeding.{seeded_to}
use Rattle.parts.specs.Decides.{Decides}
use Rattle.parts.specs.Position.{position_of, stored_at, twisted}
use Rattle.parts.specs.Splitting.{engine_split}
use Rattle.vrd_ffi.specs.declared.answers.Choice.{Choice}
use Rattle.vrd_ffi.specs.declared.answers.Coin.{Coin}
use Rattle.vrd_ffi.specs.declared.answers.Equality.{Equality}
use Rattle.vrd_ffi.specs.declared.answers.Integer.{Integer}
use Rattle.vrd_ffi.specs.declared.answers.Number.{Number}
use Rattle.vrd_ffi.specs.declared.answers.Number32.{Number32}
use Rattle.vrd_ffi.specs.declared.answers.Number64.{Number64}
use Rattle.vrd_ffi.specs.declared.answers.SignedWord.{SignedWord}
use Rattle.vrd_ffi.specs.declared.answers.Word.{Word}
use Rattle.lent_state.specs.Answers.{told, gives, formed, of_known, at_boundary}
use Rattle.vrd_ffi.specs.Handed.{word, signed_word, number, integer, choice, number32, number64, coin, zero32, zero64}
use Rattle.vrd_ffi.specs.Handed.{word_handed, signed_of64, drawn_by, counted_by, choice_of, start_of}
use Rattle.vrd_ffi.specs.Handed.{float_of, double_of, coin_of, spread_of}
use Rattle.vrd_ffi.specs.Handed.{listed, made, halves, divided, same_refusal, Equal}
use Rattle.lent_state.specs.Placing.{state_made}
use Rattle.lent_state.specs.State.{backend_in, position_in, engine_from}

-- ---- words

-- the next word
abbrev pub VrdRandPromise : List ℕ → List ℕ → Word → List ℕ → List ℕ → Type 0
VrdRandPromise s t r s' t' = told r s' t' ≡ at_boundary s t (word 0 refusal.kind) (λ g. word_handed (rand_of g))

-- the next word of 64 bits, by the kind's own order of halves
abbrev pub VrdU64Promise : List ℕ → List ℕ → Word → List ℕ → List ℕ → Type 0
VrdU64Promise s t r s' t' = told r s' t' ≡ at_boundary s t (word 0 refusal.kind) (λ g. word_handed (u64_of g))

-- the same word, read as signed
abbrev pub VrdI64Promise : List ℕ → List ℕ → SignedWord → List ℕ → List ℕ → Type 0
VrdI64Promise s t r s' t' = told r s' t' ≡ at_boundary s t (signed_word (pos 0) refusal.kind) (λ g. signed_of64 (i64_of g))

-- the next 32 words, XORed
abbrev pub VrdPseudoPromise : List ℕ → List ℕ → Word → List ℕ → List ℕ → Type 0
VrdPseudoPromise s t r s' t' = told r s' t' ≡ at_boundary s t (word 0 refusal.kind) (λ g. word_handed (pseudo_of g))

-- ---- numbers drawn within a budget

-- a number below r
abbrev pub VrdBoundedPromise : List ℕ → List ℕ → (r budget : ℕ) → Number → List ℕ → List ℕ → Type 0
VrdBoundedPromise s t r budget a s' t' = told a s' t' ≡ at_boundary s t (number 0 0 refusal.kind) (drawn_by (λ w. bounded_by w r budget))

-- a number from min up to max - 1
abbrev pub VrdRandomRangePromise : List ℕ → List ℕ → (min max budget : ℕ) → Number → List ℕ → List ℕ → Type 0
VrdRandomRangePromise s t min max budget a s' t' =
    told a s' t' ≡ at_boundary s t (number 0 0 refusal.kind) (drawn_by (λ w. range_by w min max budget))

-- a small letter's ASCII code
abbrev pub VrdCharPromise : List ℕ → List ℕ → (budget : ℕ) → Number → List ℕ → List ℕ → Type 0
VrdCharPromise s t budget a s' t' = told a s' t' ≡ at_boundary s t (number 0 0 refusal.kind) (drawn_by (λ w. char_by w budget))

-- a number from min up to max
abbrev pub VrdUintPromise : List ℕ → List ℕ → (min max budget : ℕ) → Number → List ℕ → List ℕ → Type 0
VrdUintPromise s t min max budget a s' t' =
    told a s' t' ≡ at_boundary s t (number 0 0 refusal.kind) (drawn_by (λ w. uint_by w min max budget))

-- a signed number from min up to max
abbrev pub VrdIntPromise : List ℕ → List ℕ → (min max : ℤ) (budget : ℕ) → Integer → List ℕ → List ℕ → Type 0
VrdIntPromise s t min max budget a s' t' =
    told a s' t' ≡ at_boundary s t (integer (pos 0) 0 refusal.kind) (counted_by (λ w. int_by w min max budget))

-- `range` is `int` by its other name
abbrev pub VrdRangePromise : List ℕ → List ℕ → (min max : ℤ) (budget : ℕ) → Integer → List ℕ → List ℕ → Type 0
VrdRangePromise = VrdIntPromise

-- ---- lists and buffers

-- an entry of a list, and its place
abbrev pub VrdChoosePromise : List ℕ → List ℕ → (list : List ℕ) (budget : ℕ) → Choice → List ℕ → List ℕ → Type 0
VrdChoosePromise s t list budget a s' t' =
    told a s' t'
    ≡ at_boundary s t (choice 0 0 0 refusal.kind) (λ g. choice_of (choosing.choice_from g (choosing.choose_by (words_of g) list budget)))

-- where a part of a list starts that is window long
abbrev pub VrdRandSlicePromise : List ℕ → List ℕ → (list : List ℕ) (window budget : ℕ) → Number → List ℕ → List ℕ → Type 0
VrdRandSlicePromise s t list window budget a s' t' =
    told a s' t'
    ≡ at_boundary s t (number 0 0 refusal.kind)
    (λ g. start_of (slicing.start_from g (slicing.start_of (slicing.slice_by (words_of g) (length list) window budget))))

-- the list too is what the call leaves
abbrev pub VrdShufflePromise : List ℕ → List ℕ → (list : List ℕ) (budget : ℕ) → Number → List ℕ → List ℕ → (list' : List ℕ) → Type 0
VrdShufflePromise s t list budget a s' t' list' =
    told (listed a list') s' t'
    ≡ at_boundary s t (listed (number 0 0 refusal.kind) list)
    (λ g. formed (λ (x : Number). listed x (shuffled (words_of g) list budget)) (drawn_by (λ w. shuffle_by w (length list) budget) g))

-- a buffer filled with the generator's words: the buffer too is what the call leaves
abbrev pub VrdFillBytesPromise : List ℕ → List ℕ → (dest : List ℕ) → ℕ → List ℕ → List ℕ → (dest' : List ℕ) → Type 0
VrdFillBytesPromise s t dest r s' t' dest' =
    told (listed r dest') s' t'
    ≡ at_boundary s t (listed refusal.kind dest)
    (λ g. gives (listed refusal.answered (filled_bytes g (length dest))) (later (fill_words g (length dest)) g))

-- the most entries that a list may have
abbrev pub VrdListLimitPromise : ℕ → Type 0
VrdListLimitPromise r = r ≡ list_limit

-- ---- floats

-- a float of 32 bits, from 0 up to 1
abbrev pub VrdFloatPromise : List ℕ → List ℕ → Number32 → List ℕ → List ℕ → Type 0
VrdFloatPromise s t r s' t' = told r s' t' ≡ at_boundary s t (number32 zero32 refusal.kind) (λ g. float_of (float_from g))

-- a float of 64 bits, from 0 up to 1
abbrev pub VrdDoublePromise : List ℕ → List ℕ → Number64 → List ℕ → List ℕ → Type 0
VrdDoublePromise s t r s' t' = told r s' t' ≡ at_boundary s t (number64 zero64 refusal.kind) (λ g. double_of (double_from g))

-- a coin that falls true with this chance
abbrev pub VrdBoolPromise : List ℕ → List ℕ → (chance : Float) → Coin → List ℕ → List ℕ → Type 0
VrdBoolPromise s t chance r s' t' = told r s' t' ≡ at_boundary s t (coin false 0 refusal.kind) (λ g. coin_of (flip_from g chance))

-- a number of an interval
abbrev pub VrdUniformPromise : List ℕ → List ℕ → (low high : Float) → Number64 → List ℕ → List ℕ → Type 0
VrdUniformPromise s t low high r s' t' =
    told r s' t' ≡ at_boundary s t (number64 zero64 refusal.kind) (λ g. spread_of (spread_from g (record { low = low; high = high })))

-- ---- makers

-- of a kind and a byte seed
abbrev pub VrdMakePromise : List ℕ → List ℕ → (kind : ℕ) (seed : List ℕ) → ℕ → List ℕ → List ℕ → Type 0
VrdMakePromise s t kind seed r s' t' = told r s' t' ≡ made s t (made_bytes kind seed)

-- of a seed number: kind 0,
abbrev pub VrdXoshiroWithSeedPromise : ℕ → List ℕ → Type 0
VrdXoshiroWithSeedPromise seed s' = s' ≡ state_made (of_xoshiro (xoshiro.seeded seed))

-- kind 1, with its table,
abbrev pub VrdMersenneTwisterWithSeedPromise : ℕ → List ℕ → List ℕ → Type 0
VrdMersenneTwisterWithSeedPromise seed s' t' =
    let g = of_twister (twister.seeded seed) in told refusal.answered s' t' ≡ told refusal.answered (state_made g) (table_in g)

-- kind 2,
abbrev pub VrdPcg32WithSeedPromise : ℕ → List ℕ → Type 0
VrdPcg32WithSeedPromise seed s' = s' ≡ state_made (of_pcg32 (pcg32.seeded seed pcg32.default_stream))

-- and kind 3
abbrev pub VrdPcg64WithSeedPromise : Wide → List ℕ → Type 0
VrdPcg64WithSeedPromise seed s' = s' ≡ state_made (of_pcg64 (pcg64.seeded (value seed) pcg64.default_stream))

-- of a seed and a stream: kind 2,
abbrev pub VrdPcg32WithStreamPromise : ℕ → ℕ → List ℕ → Type 0
VrdPcg32WithStreamPromise seed stream s' = s' ≡ state_made (of_pcg32 (pcg32.seeded seed stream))

-- and kind 3
abbrev pub VrdPcg64WithStreamPromise : Wide → Wide → List ℕ → Type 0
VrdPcg64WithStreamPromise seed stream s' = s' ≡ state_made (of_pcg64 (pcg64.seeded (value seed) (value stream)))

-- ---- the state

-- the generator seeded anew
abbrev pub VrdSeedPromise : List ℕ → List ℕ → (seed : ℕ) → ℕ → List ℕ → List ℕ → Type 0
VrdSeedPromise s t seed r s' t' = told r s' t' ≡ at_boundary s t refusal.kind (λ g. gives refusal.answered (seeded_to g seed))

-- the twister's twist
abbrev pub VrdTwistPromise : List ℕ → List ℕ → ℕ → List ℕ → List ℕ → Type 0
VrdTwistPromise s t r s' t' = told r s' t' ≡ at_boundary s t refusal.kind (λ g. gives refusal.answered (twisted g))

-- whatever the table
abbrev pub VrdSetMtiPromise : List ℕ → (value : ℕ) → ℕ → List ℕ → Type 0
VrdSetMtiPromise s value r s' = (t : List ℕ) → told r s' t ≡ at_boundary s t refusal.kind (λ g. gives refusal.answered (stored_at g value))

-- the twister's position
abbrev pub VrdMtiPromise : List ℕ → Word → Type 0
VrdMtiPromise s r = r ≡ of_known s (word 0 refusal.kind) (word (position_of (backend_in s) (position_in s)) refusal.answered)

-- two generators of one
abbrev pub VrdSplitPromise : List ℕ → List ℕ → ℕ → List ℕ → List ℕ → Type 0
VrdSplitPromise s c r s' c' = halves r s' c' ≡ of_known s (halves refusal.kind s c) (divided s c (engine_split (engine_from s)))

-- whether two generators are equal, by their kinds and those kinds' own parts
pub record VrdSamePromise (s t o u : List ℕ) (r : Equality) : Type 0 where
  pub refusal : r.refusal ≡ same_refusal s o
  pub equal : Decides r.equal (Equal s t o u)
