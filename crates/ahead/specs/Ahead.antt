-- The next words of a generator, put into a list from its first entry on.
use Rattle.std.specs.Prelude.{◌≡◌, List, [], ◌∷◌, ◌++◌, ℕ, zero, suc, drop}
use Rattle.words.specs.Draw.{Words}
use Rattle.mersenne_twister.specs.Table.{held}
use Rattle.source.specs.declared.Drawn.{Drawn}
use Rattle.random.specs.declared.backend.Backend.TheVariants.{MersenneTwister}
use Rattle.random.specs.declared.backend.Random.{Random}
use Rattle.random.specs.Generator.{gen, later, step, word_of, words_of}

-- The first n words of a sequence, as a list.
unfoldable pub first_words : Words → ℕ → List ℕ
first_words s zero = []
first_words s (suc n) = first_words s n ++ (s n ∷ [])

-- n words of the generator g were put into the first entries of the list l, which became l', and h is the generator after them.
pub record WordsPut (g : Random) (n : ℕ) (l l' : List ℕ) (h : Random) : Type 0 where
  pub words : l' ≡ first_words (words_of g) n ++ drop n l
  pub moved : h ≡ later n g

-- The generator f x holds the source x: its word is what the source draws, and its step is the source's.
pub record Holds {A : Type 0} (draw : A → Drawn ℕ A) (f : A → Random) : Type 0 where
  pub word : (x : A) → (draw x).word ≡ word_of (f x)
  pub moved : (x : A) → f (draw x).next ≡ step (f x)

-- The same of a source, which became y: of every generator that holds it.
abbrev pub SourcePut : {A : Type 0} → (A → Drawn ℕ A) → A → ℕ → List ℕ → List ℕ → A → Type 0
SourcePut {A} draw x n l l' y = (f : A → Random) → Holds draw f → WordsPut (f x) n l l' (f y)

-- The same of the twister, by its table and position.
abbrev pub TwisterPut : List ℕ → ℕ → ℕ → List ℕ → List ℕ → List ℕ → ℕ → Type 0
TwisterPut m p n l l' m' p' = WordsPut (gen MersenneTwister (held m p)) n l l' (gen MersenneTwister (held m' p'))
