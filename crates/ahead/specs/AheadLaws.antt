-- The laws of words put into a list: one law for each way through the loops, what the list holds, and that there is one answer.
use Rattle.std.specs.Prelude.{◌≡◌, refl, List, [], ◌∷◌, ◌++◌, ℕ, zero, suc, ◌+◌, ◌≤◌, ◌<◌, length, get_or, set, drop}
use Rattle.std.proofs.Common.{sym, ◌∙◌, ap, append_assoc, append-nil, add-one, lt_of_not-le, arith, length-append, drop-cons}
use Rattle.std.proofs.Math.Decide.{dec_le}
use Rattle.std.proofs.Math.ListN.{get_or-append}
use Rattle.std.proofs.Math.Seq.{drop-nil}
use Rattle.std.proofs.lemmas.List.{set_at, get_or_at}
use Rattle.words.specs.Draw.{Words}
use Rattle.mersenne_twister.specs.Table as twister
use Rattle.mersenne_twister.specs.declared.MersenneTwister as twister_type
use Rattle.mersenne_twister.specs.declared.table.Step.{Step}
use Rattle.source.specs.declared.Drawn.{Drawn}
use Rattle.pcg.specs.Pcg32 as pcg32
use Rattle.pcg.specs.Pcg64 as pcg64
use Rattle.xoshiro.specs.Generator as xoshiro
use Rattle.random.specs.declared.backend.Backend.TheVariants.{Xoshiro256PlusPlus, MersenneTwister, Pcg32, Pcg64}
use Rattle.random.specs.declared.backend.Random.{Random}
use Rattle.random.specs.Generator.{gen, word_of, words_of, step, later}
use Rattle.random.specs.GeneratorLaws.{later_none, later_one, word_at}
use Rattle.ahead.specs.Ahead.{first_words, WordsPut, Holds, SourcePut, TwisterPut}

-- ---- the first words of a sequence

-- There are n of them.
pub words_length : (s : Words) (n : ℕ) → length (first_words s n) ≡ n
unfolding first_words
words_length s zero = refl
words_length s (suc n) = rw (length-append, words_length s n) (omega arith)

-- One word more stands at the end.
pub words_more : (s : Words) (n : ℕ) → first_words s (suc n) ≡ first_words s n ++ (s n ∷ [])
unfolding first_words
words_more s n = refl

-- the word at a place
pub word_there : (s : Words) (n j : ℕ) → j < n → get_or (first_words s n) j 0 ≡ s j
word_there s zero j h = absurd (omega arith)
word_there s (suc n) j h =
    rw (words_more s n)
    (elim (dec_le n j) [ yes m ↦ last (omega arith) | no m ↦ before (lt_of_not-le m) (word_there s n j (lt_of_not-le m)) ])
  where
    last : j ≡ n → get_or (first_words s n ++ (s n ∷ [])) j 0 ≡ s j
    last e = rw e (get_or_at (first_words s n) (s n) [] 0 n (words_length s n))

    before : j < n → get_or (first_words s n) j 0 ≡ s j → get_or (first_words s n ++ (s n ∷ [])) j 0 ≡ s j
    before k there =
        let short : j < length (first_words s n) = rw (words_length s n) k in
        get_or-append (first_words s n) (s n ∷ []) 0 j short ∙ there

-- ---- the loop: no word yet, one more, and a word for every entry

drop_all : (n : ℕ) (l : List ℕ) → length l ≤ n → drop n l ≡ []
drop_all n [] h = drop-nil n
drop_all zero (x ∷ l) h = absurd (omega arith)
drop_all (suc n) (x ∷ l) h = drop_all n l (omega arith)

-- Before the first word nothing is put.
pub put_none : {g : Random} {l : List ℕ} → WordsPut g 0 l l g
unfolding first_words
put_none {g} = record { words = refl; moved = sym (later_none g) }

-- One word more is put at the next entry, and the generator is one step on.
pub put_more : {g h h' : Random} {n w : ℕ} {l l' : List ℕ} → n < length l → WordsPut g n l l' h → w ≡ word_of h → h' ≡ step h
    → WordsPut g (n + 1) l (set l' n w) h'
put_more {g} {n = n} {w} {l} {l'} more p e q = record {
  words =
      let s = words_of g in
      let there : l' ≡ first_words s n ++ (get_or l n 0 ∷ drop (suc n) l) =
      p.words ∙ ap (λ (rest : List ℕ). first_words s n ++ rest) (drop-cons l n 0 more) in
      let word : w ≡ s n = e ∙ ap word_of p.moved ∙ word_at n g in
      let put : set l' n w ≡ first_words s n ++ (s n ∷ drop (suc n) l) =
      ap (λ (x : List ℕ). set x n w) there ∙ set_at (first_words s n) (get_or l n 0) (drop (suc n) l) w n (words_length s n)
      ∙ ap (λ (x : ℕ). first_words s n ++ (x ∷ drop (suc n) l)) word in
      put ∙ rw (add-one, words_more s n, append_assoc);
  moved = q ∙ ap step p.moved ∙ sym (later_one n g);
}

-- every entry has its word
pub put_all : {g h : Random} {l l' : List ℕ} → WordsPut g (length l) l l' h
    → (l' ≡ first_words (words_of g) (length l)) × (h ≡ later (length l) g)
put_all {l = l} p = (p.words ∙ rw (drop_all (length l) l (omega arith), append-nil), p.moved)

-- ---- the sources

-- Each kind's source is held by the generator of its kind, whatever twister stands beside it.
pub xoshiro_holds : (t : twister_type.MersenneTwister) → Holds xoshiro.drawn_high (λ x. gen (Xoshiro256PlusPlus x) t)
unfolding word_of step
xoshiro_holds t = record { word = λ x. refl; moved = λ x. refl }

pub pcg32_holds : (t : twister_type.MersenneTwister) → Holds pcg32.drawn (λ p. gen (Pcg32 p) t)
unfolding word_of step
pcg32_holds t = record { word = λ p. refl; moved = λ p. refl }

pub pcg64_holds : (t : twister_type.MersenneTwister) → Holds pcg64.drawn_high (λ p. gen (Pcg64 p) t)
unfolding word_of step
pcg64_holds t = record { word = λ p. refl; moved = λ p. refl }

-- Before the first word nothing of a source is put,
pub source_none : {A : Type 0} {draw : A → Drawn ℕ A} {x : A} {l : List ℕ} → SourcePut draw x 0 l l x
source_none f h = put_none

-- and then one word more.
pub source_more : {A : Type 0} {draw : A → Drawn ℕ A} {x y : A} {n : ℕ} {l l' : List ℕ} {d : Drawn ℕ A} → n < length l
    → SourcePut draw x n l l' y → d ≡ draw y → SourcePut draw x (n + 1) l (set l' n d.word) d.next
source_more {A} {y = y} more p e f h =
    put_more more (p f h) (ap (λ (d : Drawn ℕ A). d.word) e ∙ h.word y) (ap (λ (d : Drawn ℕ A). f d.next) e ∙ h.moved y)

-- One word more of the twister, whose table is lent: the step leaves the word and the next position.
pub twister_more : {m m' m'' : List ℕ} {p p' n : ℕ} {l l' : List ℕ} {s : Step ℕ} → n < length l
    → TwisterPut m p n l l' m' p' → twister.stepped s m'' ≡ twister.drawn_in m' p' → TwisterPut m p (n + 1) l (set l' n s.word) m'' s.mti
unfolding word_of step
twister_more more p e =
    put_more more p (ap (λ (d : Drawn ℕ twister_type.MersenneTwister). d.word) e)
    (ap (λ (d : Drawn ℕ twister_type.MersenneTwister). gen MersenneTwister d.next) e)
