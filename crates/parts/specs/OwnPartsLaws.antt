-- The laws of own parts: the kind and the small words fix the backend, and what two generators must share to be equal.
use Rattle.std.specs.Prelude.{List, true, false, ◌≡◌, refl, ℕ}
use Rattle.std.proofs.Common.{sym, ◌∙◌, true≢false, arith}
use Rattle.std.proofs.Math.Path.{ap}
use Rattle.random.specs.declared.backend.Random.{Random}
use Rattle.random.specs.declared.backend.Backend.{Backend}
use Rattle.random.specs.declared.backend.Backend.TheVariants.{Xoshiro256PlusPlus, MersenneTwister, Pcg32, Pcg64}
use Rattle.random.specs.TableKept.{on_table}
use Rattle.parts.specs.Kind.{kind_of, small_words}
use Rattle.parts.specs.OwnParts.{table_part, Own, own_parts}
use Rattle.parts.specs.Position.{position_of}

-- one kind and the same small words: one backend
pub backend_is : (b c : Backend) → kind_of b ≡ kind_of c → small_words b ≡ small_words c → b ≡ c
backend_is (Xoshiro256PlusPlus x) (Xoshiro256PlusPlus y) k e =
    λ i. Xoshiro256PlusPlus (record { s0 = (e i).w0; s1 = (e i).w1; s2 = (e i).w2; s3 = (e i).w3 })
backend_is (Xoshiro256PlusPlus x) MersenneTwister k e = absurd (omega arith)
backend_is (Xoshiro256PlusPlus x) (Pcg32 q) k e = absurd (omega arith)
backend_is (Xoshiro256PlusPlus x) (Pcg64 q) k e = absurd (omega arith)
backend_is MersenneTwister (Xoshiro256PlusPlus y) k e = absurd (omega arith)
backend_is MersenneTwister MersenneTwister k e = refl
backend_is MersenneTwister (Pcg32 q) k e = absurd (omega arith)
backend_is MersenneTwister (Pcg64 q) k e = absurd (omega arith)
backend_is (Pcg32 p) (Xoshiro256PlusPlus y) k e = absurd (omega arith)
backend_is (Pcg32 p) MersenneTwister k e = absurd (omega arith)
backend_is (Pcg32 p) (Pcg32 q) k e = λ i. Pcg32 (record { state = (e i).w0; inc = (e i).w1 })
backend_is (Pcg32 p) (Pcg64 q) k e = absurd (omega arith)
backend_is (Pcg64 p) (Xoshiro256PlusPlus y) k e = absurd (omega arith)
backend_is (Pcg64 p) MersenneTwister k e = absurd (omega arith)
backend_is (Pcg64 p) (Pcg32 q) k e = absurd (omega arith)
backend_is (Pcg64 p) (Pcg64 q) k e =
    λ i. Pcg64 (record { state = record { high = (e i).w0; low = (e i).w1 }; inc = record { high = (e i).w2; low = (e i).w3 } })

-- a kind other than the twister has no table of its own, and the twister's is the whole
pub table_by : (b : Backend) (t u : List ℕ) → (kind_of b ≡ 1 → ⊥) → table_part b t ≡ table_part b u
table_by (Xoshiro256PlusPlus x) t u h = refl
table_by MersenneTwister t u h = absurd (h refl)
table_by (Pcg32 p) t u h = refl
table_by (Pcg64 p) t u h = refl

pub twister_by : (b : Backend) (t : List ℕ) → kind_of b ≡ 1 → table_part b t ≡ t
twister_by (Xoshiro256PlusPlus x) t h = absurd (omega arith)
twister_by MersenneTwister t h = refl
twister_by (Pcg32 p) t h = absurd (omega arith)
twister_by (Pcg64 p) t h = absurd (omega arith)

-- the same by whether the kind draws from the table
pub table_off : (b : Backend) (t u : List ℕ) → on_table b ≡ false → table_part b t ≡ table_part b u
table_off (Xoshiro256PlusPlus x) t u h = refl
table_off MersenneTwister t u h = absurd (true≢false h)
table_off (Pcg32 p) t u h = refl
table_off (Pcg64 p) t u h = refl

pub table_on : (b : Backend) (t : List ℕ) → on_table b ≡ true → table_part b t ≡ t
table_on (Xoshiro256PlusPlus x) t h = absurd (true≢false (sym h))
table_on MersenneTwister t h = refl
table_on (Pcg32 p) t h = absurd (true≢false (sym h))
table_on (Pcg64 p) t h = absurd (true≢false (sym h))

module _ (g h : Random) where
  -- the position where it is the kind's own
  abbrev position : Random → ℕ
  position a = position_of a.backend a.twister.mti

  -- both tables, looked at as the first generator's kind looks at them
  abbrev OneTable : Type 0
  OneTable = table_part g.backend g.twister.mt ≡ table_part g.backend h.twister.mt

  -- what follows of equal own parts
  pub own_backend : own_parts g ≡ own_parts h → g.backend ≡ h.backend
  unfolding own_parts
  own_backend e = ap (λ (o : Own). o.backend) e

  pub own_position : own_parts g ≡ own_parts h → position g ≡ position h
  unfolding own_parts
  own_position e = ap (λ (o : Own). o.position) e

  pub own_table : own_parts g ≡ own_parts h → OneTable
  unfolding own_parts
  own_table e = ap (λ (o : Own). o.table) e ∙ ap (λ (b : Backend). table_part b h.twister.mt) (sym (own_backend e))

  -- and what it takes
  pub own_same : g.backend ≡ h.backend → position g ≡ position h → OneTable → own_parts g ≡ own_parts h
  unfolding own_parts
  own_same b p t =
      let tables = t ∙ ap (λ (x : Backend). table_part x h.twister.mt) b in
      λ i. record { backend = b i; position = p i; table = tables i }

  -- so of the twister the whole tables, and of the other kinds none
  pub own_twister : g.backend ≡ h.backend → position g ≡ position h → g.twister.mt ≡ h.twister.mt → own_parts g ≡ own_parts h
  own_twister b p t = own_same b p (ap (table_part g.backend) t)

  pub own_other : g.backend ≡ h.backend → position g ≡ position h → (kind_of g.backend ≡ 1 → ⊥) → own_parts g ≡ own_parts h
  own_other b p k = own_same b p (table_by g.backend g.twister.mt h.twister.mt k)
