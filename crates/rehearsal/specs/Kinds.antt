-- Draws from a source, and from the twister, for the loops that look at each word: what they come to, and that what is drawn is the
-- generator's next word. That each kind's generator holds its source, `ahead` has.
use Rattle.std.specs.Prelude.{List, ◌≡◌, ℕ}
use Rattle.std.proofs.Common.{◌∙◌, ap}
use Rattle.mersenne_twister.specs.Table as twister
use Rattle.mersenne_twister.specs.declared.MersenneTwister as twister_type
use Rattle.mersenne_twister.specs.declared.table.Step.{Step}
use Rattle.source.specs.declared.Drawn.{Drawn}
use Rattle.ahead.specs.Ahead.{Holds}
use Rattle.ahead.specs.AheadLaws.{xoshiro_holds, pcg32_holds, pcg64_holds}
use Rattle.pcg.specs.Pcg32 as pcg32
use Rattle.pcg.specs.Pcg64 as pcg64
use Rattle.pcg.specs.declared.pcg32.Pcg32 as pcg32_type
use Rattle.pcg.specs.declared.pcg64.Pcg64 as pcg64_type
use Rattle.xoshiro.specs.Generator as xoshiro
use Rattle.xoshiro.specs.declared.Xoshiro256PlusPlus as xoshiro_type
use Rattle.random.specs.declared.backend.Backend.{Backend}
use Rattle.random.specs.declared.backend.Backend.TheVariants.{Xoshiro256PlusPlus, MersenneTwister, Pcg32, Pcg64}
use Rattle.random.specs.declared.backend.Random.{Random}
use Rattle.random.specs.Generator.{gen, word_of, words_of, step}
use Rattle.rehearsal.specs.Rehearsal.{draws_of, rehearsed_of}
use Rattle.rehearsal.specs.Standing.{Looking, NextWord}
use Rattle.rehearsal.specs.declared.rehearsing.Rehearsed.{Rehearsed}
use Rattle.rehearsal.specs.declared.turns.Draws.{Draws}

-- What draws from a source come to: from every generator that holds it.
abbrev pub SourceTold : {A : Type 0} → (A → Drawn ℕ A) → A → Draws → Rehearsed → Type 0
SourceTold {A} draw x d r = (f : A → Random) → Holds draw f → r ≡ rehearsed_of (draws_of (words_of (f x)) d)

-- The same of the twister, by its table and position.
abbrev pub TwisterTold : List ℕ → ℕ → Draws → Rehearsed → Type 0
TwisterTold m p d r = r ≡ rehearsed_of (draws_of (words_of (gen MersenneTwister (twister.held m p))) d)

-- Where they stand after n words, which settled k draws, with the next one below b.
abbrev pub SourceLooking : {A : Type 0} → (A → Drawn ℕ A) → A → Draws → ℕ → ℕ → ℕ → A → Type 0
SourceLooking {A} draw x d n k b y = (f : A → Random) → Holds draw f → Looking (f x) d n k b (f y)

-- What a source draws is the next word of every generator that holds it,
pub source_next : {A : Type 0} {draw : A → Drawn ℕ A} {f : A → Random} → Holds draw f → {x : A} {r : Drawn ℕ A} → r ≡ draw x
    → NextWord (f x) r.word (f r.next)
source_next {A} {f = f} h {x} e = record {
  word = ap (λ (r : Drawn ℕ A). r.word) e ∙ h.word x;
  moved = ap (λ (r : Drawn ℕ A). f r.next) e ∙ h.moved x;
}

-- and what the twister draws, whose table is lent, is the twister's.
pub twister_next_lem : {m m' : List ℕ} {p : ℕ} {s : Step ℕ} → twister.stepped s m' ≡ twister.drawn_in m p
    → NextWord (gen MersenneTwister (twister.held m p)) s.word (gen MersenneTwister (twister.held m' s.mti))
unfolding word_of step
twister_next_lem e = record {
  word = ap (λ (r : Drawn ℕ twister_type.MersenneTwister). r.word) e;
  moved = ap (λ (r : Drawn ℕ twister_type.MersenneTwister). gen MersenneTwister r.next) e;
}

-- So each kind's own call gives the generator's next word. The twister beside a kind that is not the twister may be any.
abbrev pub NextOf : Backend → ℕ → Backend → Type 0
NextOf kind w next = (t : twister_type.MersenneTwister) → NextWord (gen kind t) w (gen next t)

-- the word of Xoshiro256++
pub xoshiro_next : {x : xoshiro_type.Xoshiro256PlusPlus} {r : Drawn ℕ xoshiro_type.Xoshiro256PlusPlus} → r ≡ xoshiro.drawn_high x
    → NextOf (Xoshiro256PlusPlus x) r.word (Xoshiro256PlusPlus r.next)
xoshiro_next e t = source_next (xoshiro_holds t) e

-- of Pcg32
pub pcg32_next : {p : pcg32_type.Pcg32} {r : Drawn ℕ pcg32_type.Pcg32} → r ≡ pcg32.drawn p → NextOf (Pcg32 p) r.word (Pcg32 r.next)
pcg32_next e t = source_next (pcg32_holds t) e

-- of Pcg64, the high half of its own
pub pcg64_next : {p : pcg64_type.Pcg64} {r : Drawn ℕ pcg64_type.Pcg64} → r ≡ pcg64.drawn_high p → NextOf (Pcg64 p) r.word (Pcg64 r.next)
pcg64_next e t = source_next (pcg64_holds t) e
