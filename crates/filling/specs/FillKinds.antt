-- The whole words that a buffer has room for, as the loop over a source of a width, or over the twister, writes them; and what they are of
-- the generator that holds the state.
use Rattle.std.specs.Prelude.{refl, List, ℕ, ◌-◌, ◌%◌}
use Rattle.mersenne_twister.specs.declared.MersenneTwister as twister_type
use Rattle.mersenne_twister.specs.Table as twister
use Rattle.source.specs.declared.Drawn.{Drawn}
use Rattle.pcg.specs.declared.pcg32.Pcg32 as pcg32_type
use Rattle.pcg.specs.declared.pcg64.Pcg64 as pcg64_type
use Rattle.pcg.specs.Pcg32 as pcg32
use Rattle.pcg.specs.Pcg64 as pcg64
use Rattle.xoshiro.specs.declared.Xoshiro256PlusPlus as xoshiro_type
use Rattle.xoshiro.specs.Generator as xoshiro
use Rattle.random.specs.declared.backend.Backend.TheVariants.{Xoshiro256PlusPlus, MersenneTwister, Pcg32, Pcg64}
use Rattle.random.specs.declared.backend.Random.{Random}
use Rattle.random.specs.declared.engine.Engine.{Engine}
use Rattle.random.specs.Generator.{gen, width_of, step, own_word}
use Rattle.random.specs.Lent.{joined_with}
use Rattle.filling.specs.FillLoop.{Filling, WholeWords, filling_part}

-- ---- n bytes of room, the state before and after, and the buffer's content

-- i bytes of them, of a source that draws 64 bits, which is `draw`
abbrev pub Filled64 : {A : Type 0} → (A → Drawn ℕ A) → ℕ → A → ℕ → A → List ℕ → Type 0
Filled64 draw n x i next bytes = Filling (λ s. (draw s).word) (λ s. (draw s).next) 8 x n i next bytes

-- of a source that draws 32 bits
abbrev pub Filled32 : {A : Type 0} → (A → Drawn ℕ A) → ℕ → A → ℕ → A → List ℕ → Type 0
Filled32 draw n x i next bytes = Filling (λ s. (draw s).word) (λ s. (draw s).next) 4 x n i next bytes

-- and all that there is room for
abbrev pub Words64 : {A : Type 0} → (A → Drawn ℕ A) → ℕ → A → A → List ℕ → Type 0
Words64 draw n x next bytes = Filled64 draw n x (n - n % 8) next bytes

abbrev pub Words32 : {A : Type 0} → (A → Drawn ℕ A) → ℕ → A → A → List ℕ → Type 0
Words32 draw n x next bytes = Filled32 draw n x (n - n % 4) next bytes

-- the twister's word
abbrev pub twister_word : twister_type.MersenneTwister → ℕ
twister_word t = (twister.drawn t).word

-- and the twister after it
abbrev pub twister_next : twister_type.MersenneTwister → twister_type.MersenneTwister
twister_next t = (twister.drawn t).next

-- its words in the buffer
abbrev pub TwisterWords : ℕ → twister_type.MersenneTwister → twister_type.MersenneTwister → List ℕ → Type 0
TwisterWords n t next bytes = WholeWords twister_word twister_next 4 t n next bytes

-- ---- of the generator

-- whole words of the generator's own width
abbrev pub WholeOwn : Random → ℕ → Random → List ℕ → Type 0
WholeOwn g n cur bytes = WholeWords own_word step (width_of g.backend) g n cur bytes

-- the same of the generators that an engine and its table make, before and after
abbrev pub WholeOwnIn : Engine → List ℕ → ℕ → Engine → List ℕ → List ℕ → Type 0
WholeOwnIn e mt n r mt' bytes = WholeOwn (joined_with e mt) n (joined_with r mt') bytes

module _ {n : ℕ} {bytes : List ℕ} where
  -- each kind's words are those of the generator that holds its state
  pub xoshiro_own : (t : twister_type.MersenneTwister) {x next : xoshiro_type.Xoshiro256PlusPlus} → Words64 xoshiro.drawn n x next bytes
      → WholeOwn (gen (Xoshiro256PlusPlus x) t) n (gen (Xoshiro256PlusPlus next) t) bytes
  unfolding own_word step
  xoshiro_own t h = filling_part own_word step (λ x. gen (Xoshiro256PlusPlus x) t) (λ x. refl) (λ x. refl) h

  pub twister_own : {t next : twister_type.MersenneTwister} → TwisterWords n t next bytes
      → WholeOwn (gen MersenneTwister t) n (gen MersenneTwister next) bytes
  unfolding own_word step
  twister_own h = filling_part own_word step (gen MersenneTwister) (λ x. refl) (λ x. refl) h

  pub pcg32_own : (t : twister_type.MersenneTwister) {p next : pcg32_type.Pcg32} → Words32 pcg32.drawn n p next bytes
      → WholeOwn (gen (Pcg32 p) t) n (gen (Pcg32 next) t) bytes
  unfolding own_word step
  pcg32_own t h = filling_part own_word step (λ x. gen (Pcg32 x) t) (λ x. refl) (λ x. refl) h

  pub pcg64_own : (t : twister_type.MersenneTwister) {p next : pcg64_type.Pcg64} → Words64 pcg64.drawn n p next bytes
      → WholeOwn (gen (Pcg64 p) t) n (gen (Pcg64 next) t) bytes
  unfolding own_word step
  pcg64_own t h = filling_part own_word step (λ x. gen (Pcg64 x) t) (λ x. refl) (λ x. refl) h
