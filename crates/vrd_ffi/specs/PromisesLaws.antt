-- Each promise leaves one answer, one state, one table, one list and one buffer: what meets it twice is equal.
use Rattle.std.specs.Prelude.{ℕ, Float, ℤ, List, [], ◌≡◌}
use Rattle.std.proofs.Common.{sym, ◌∙◌, ap, ap₂}
use Rattle.wrapping.specs.declared.wide.Wide.{Wide}
use Rattle.parts.specs.Decides.{decides_once}
use Rattle.vrd_ffi.specs.declared.answers.Choice.{Choice}
use Rattle.vrd_ffi.specs.declared.answers.Coin.{Coin}
use Rattle.vrd_ffi.specs.declared.answers.Equality.{Equality}
use Rattle.vrd_ffi.specs.declared.answers.Integer.{Integer}
use Rattle.vrd_ffi.specs.declared.answers.Number.{Number}
use Rattle.vrd_ffi.specs.declared.answers.Number32.{Number32}
use Rattle.vrd_ffi.specs.declared.answers.Number64.{Number64}
use Rattle.vrd_ffi.specs.declared.answers.SignedWord.{SignedWord}
use Rattle.vrd_ffi.specs.declared.answers.Word.{Word}
use Rattle.lent_state.specs.Answers.{Told, told}
use Rattle.lent_state.specs.AnswersLaws.{told_apart}
use Rattle.vrd_ffi.specs.Handed.{Listed, listed, Halves, Equal}
use Rattle.vrd_ffi.specs.Promises.{VrdRandPromise, VrdU64Promise, VrdI64Promise, VrdPseudoPromise}
use Rattle.vrd_ffi.specs.Promises.{VrdBoundedPromise, VrdRandomRangePromise, VrdCharPromise}
use Rattle.vrd_ffi.specs.Promises.{VrdUintPromise, VrdIntPromise, VrdRangePromise}
use Rattle.vrd_ffi.specs.Promises.{VrdChoosePromise, VrdRandSlicePromise, VrdShufflePromise, VrdFillBytesPromise, VrdListLimitPromise}
use Rattle.vrd_ffi.specs.Promises.{VrdFloatPromise, VrdDoublePromise, VrdBoolPromise, VrdUniformPromise}
use Rattle.vrd_ffi.specs.Promises.{VrdMakePromise, VrdXoshiroWithSeedPromise, VrdMersenneTwisterWithSeedPromise}
use Rattle.vrd_ffi.specs.Promises.{VrdPcg32WithSeedPromise, VrdPcg64WithSeedPromise}
use Rattle.vrd_ffi.specs.Promises.{VrdPcg32WithStreamPromise, VrdPcg64WithStreamPromise}
use Rattle.vrd_ffi.specs.Promises.{VrdSeedPromise, VrdTwistPromise, VrdSetMtiPromise, VrdMtiPromise, VrdSplitPromise, VrdSamePromise}

-- ---- calls over a state and a table

module _ (s t : List ℕ) {s₁ s₂ t₁ t₂ : List ℕ} where
  pub one_vrd_rand : {a b : Word} → VrdRandPromise s t a s₁ t₁ → VrdRandPromise s t b s₂ t₂ → (a ≡ b) × (s₁ ≡ s₂) × (t₁ ≡ t₂)
  one_vrd_rand p q = told_apart (p ∙ sym q)

  pub one_vrd_u64 : {a b : Word} → VrdU64Promise s t a s₁ t₁ → VrdU64Promise s t b s₂ t₂ → (a ≡ b) × (s₁ ≡ s₂) × (t₁ ≡ t₂)
  one_vrd_u64 p q = told_apart (p ∙ sym q)

  pub one_vrd_i64 : {a b : SignedWord} → VrdI64Promise s t a s₁ t₁ → VrdI64Promise s t b s₂ t₂ → (a ≡ b) × (s₁ ≡ s₂) × (t₁ ≡ t₂)
  one_vrd_i64 p q = told_apart (p ∙ sym q)

  pub one_vrd_pseudo : {a b : Word} → VrdPseudoPromise s t a s₁ t₁ → VrdPseudoPromise s t b s₂ t₂ → (a ≡ b) × (s₁ ≡ s₂) × (t₁ ≡ t₂)
  one_vrd_pseudo p q = told_apart (p ∙ sym q)

  pub one_vrd_bounded : (r budget : ℕ) {a b : Number} → VrdBoundedPromise s t r budget a s₁ t₁ → VrdBoundedPromise s t r budget b s₂ t₂
      → (a ≡ b) × (s₁ ≡ s₂) × (t₁ ≡ t₂)
  one_vrd_bounded r budget p q = told_apart (p ∙ sym q)

  pub one_vrd_random_range : (min max budget : ℕ) {a b : Number} → VrdRandomRangePromise s t min max budget a s₁ t₁
      → VrdRandomRangePromise s t min max budget b s₂ t₂ → (a ≡ b) × (s₁ ≡ s₂) × (t₁ ≡ t₂)
  one_vrd_random_range min max budget p q = told_apart (p ∙ sym q)

  pub one_vrd_char : (budget : ℕ) {a b : Number} → VrdCharPromise s t budget a s₁ t₁ → VrdCharPromise s t budget b s₂ t₂
      → (a ≡ b) × (s₁ ≡ s₂) × (t₁ ≡ t₂)
  one_vrd_char budget p q = told_apart (p ∙ sym q)

  pub one_vrd_uint : (min max budget : ℕ) {a b : Number} → VrdUintPromise s t min max budget a s₁ t₁
      → VrdUintPromise s t min max budget b s₂ t₂ → (a ≡ b) × (s₁ ≡ s₂) × (t₁ ≡ t₂)
  one_vrd_uint min max budget p q = told_apart (p ∙ sym q)

  pub one_vrd_int : (min max : ℤ) (budget : ℕ) {a b : Integer} → VrdIntPromise s t min max budget a s₁ t₁
      → VrdIntPromise s t min max budget b s₂ t₂ → (a ≡ b) × (s₁ ≡ s₂) × (t₁ ≡ t₂)
  one_vrd_int min max budget p q = told_apart (p ∙ sym q)

  pub one_vrd_range : (min max : ℤ) (budget : ℕ) {a b : Integer} → VrdRangePromise s t min max budget a s₁ t₁
      → VrdRangePromise s t min max budget b s₂ t₂ → (a ≡ b) × (s₁ ≡ s₂) × (t₁ ≡ t₂)
  one_vrd_range min max budget p q = told_apart (p ∙ sym q)

  pub one_vrd_choose : (list : List ℕ) (budget : ℕ) {a b : Choice} → VrdChoosePromise s t list budget a s₁ t₁
      → VrdChoosePromise s t list budget b s₂ t₂ → (a ≡ b) × (s₁ ≡ s₂) × (t₁ ≡ t₂)
  one_vrd_choose list budget p q = told_apart (p ∙ sym q)

  pub one_vrd_rand_slice : (list : List ℕ) (window budget : ℕ) {a b : Number} → VrdRandSlicePromise s t list window budget a s₁ t₁
      → VrdRandSlicePromise s t list window budget b s₂ t₂ → (a ≡ b) × (s₁ ≡ s₂) × (t₁ ≡ t₂)
  one_vrd_rand_slice list window budget p q = told_apart (p ∙ sym q)

  pub one_vrd_float : {a b : Number32} → VrdFloatPromise s t a s₁ t₁ → VrdFloatPromise s t b s₂ t₂ → (a ≡ b) × (s₁ ≡ s₂) × (t₁ ≡ t₂)
  one_vrd_float p q = told_apart (p ∙ sym q)

  pub one_vrd_double : {a b : Number64} → VrdDoublePromise s t a s₁ t₁ → VrdDoublePromise s t b s₂ t₂ → (a ≡ b) × (s₁ ≡ s₂) × (t₁ ≡ t₂)
  one_vrd_double p q = told_apart (p ∙ sym q)

  pub one_vrd_bool : (chance : Float) {a b : Coin} → VrdBoolPromise s t chance a s₁ t₁ → VrdBoolPromise s t chance b s₂ t₂
      → (a ≡ b) × (s₁ ≡ s₂) × (t₁ ≡ t₂)
  one_vrd_bool chance p q = told_apart (p ∙ sym q)

  pub one_vrd_uniform : (low high : Float) {a b : Number64} → VrdUniformPromise s t low high a s₁ t₁
      → VrdUniformPromise s t low high b s₂ t₂ → (a ≡ b) × (s₁ ≡ s₂) × (t₁ ≡ t₂)
  one_vrd_uniform low high p q = told_apart (p ∙ sym q)

  pub one_vrd_make : (kind : ℕ) (seed : List ℕ) {a b : ℕ} → VrdMakePromise s t kind seed a s₁ t₁ → VrdMakePromise s t kind seed b s₂ t₂
      → (a ≡ b) × (s₁ ≡ s₂) × (t₁ ≡ t₂)
  one_vrd_make kind seed p q = told_apart (p ∙ sym q)

  pub one_vrd_seed : (seed : ℕ) {a b : ℕ} → VrdSeedPromise s t seed a s₁ t₁ → VrdSeedPromise s t seed b s₂ t₂
      → (a ≡ b) × (s₁ ≡ s₂) × (t₁ ≡ t₂)
  one_vrd_seed seed p q = told_apart (p ∙ sym q)

  pub one_vrd_twist : {a b : ℕ} → VrdTwistPromise s t a s₁ t₁ → VrdTwistPromise s t b s₂ t₂ → (a ≡ b) × (s₁ ≡ s₂) × (t₁ ≡ t₂)
  one_vrd_twist p q = told_apart (p ∙ sym q)

  -- the list or the buffer too
  listed_apart : {A : Type 0} {a b : A} {l m : List ℕ} → told (listed a l) s₁ t₁ ≡ told (listed b m) s₂ t₂
      → (a ≡ b) × (l ≡ m) × (s₁ ≡ s₂) × (t₁ ≡ t₂)
  listed_apart {A} h = (
    ap (λ (x : Told (Listed A)). x.answer.answer) h,
    ap (λ (x : Told (Listed A)). x.answer.list) h,
    ap (λ (x : Told (Listed A)). x.state) h,
    ap (λ (x : Told (Listed A)). x.table) h,
  )

  pub one_vrd_shuffle : (list : List ℕ) (budget : ℕ) {a b : Number} {l m : List ℕ}
      → VrdShufflePromise s t list budget a s₁ t₁ l → VrdShufflePromise s t list budget b s₂ t₂ m
      → (a ≡ b) × (l ≡ m) × (s₁ ≡ s₂) × (t₁ ≡ t₂)
  one_vrd_shuffle list budget p q = listed_apart (p ∙ sym q)

  pub one_vrd_fill_bytes : (dest : List ℕ) {a b : ℕ} {l m : List ℕ}
      → VrdFillBytesPromise s t dest a s₁ t₁ l → VrdFillBytesPromise s t dest b s₂ t₂ m → (a ≡ b) × (l ≡ m) × (s₁ ≡ s₂) × (t₁ ≡ t₂)
  one_vrd_fill_bytes dest p q = listed_apart (p ∙ sym q)

pub one_vrd_list_limit : {a b : ℕ} → VrdListLimitPromise a → VrdListLimitPromise b → a ≡ b
one_vrd_list_limit p q = p ∙ sym q

-- ---- makers

module _ {s₁ s₂ : List ℕ} where
  pub one_vrd_xoshiro_with_seed : (seed : ℕ) → VrdXoshiroWithSeedPromise seed s₁ → VrdXoshiroWithSeedPromise seed s₂ → s₁ ≡ s₂
  one_vrd_xoshiro_with_seed seed p q = p ∙ sym q

  pub one_vrd_mersenne_twister_with_seed : (seed : ℕ) {t₁ t₂ : List ℕ}
      → VrdMersenneTwisterWithSeedPromise seed s₁ t₁ → VrdMersenneTwisterWithSeedPromise seed s₂ t₂ → (s₁ ≡ s₂) × (t₁ ≡ t₂)
  one_vrd_mersenne_twister_with_seed seed p q = let e = told_apart (p ∙ sym q) in (e.1, e.2)

  pub one_vrd_pcg32_with_seed : (seed : ℕ) → VrdPcg32WithSeedPromise seed s₁ → VrdPcg32WithSeedPromise seed s₂ → s₁ ≡ s₂
  one_vrd_pcg32_with_seed seed p q = p ∙ sym q

  pub one_vrd_pcg64_with_seed : (seed : Wide) → VrdPcg64WithSeedPromise seed s₁ → VrdPcg64WithSeedPromise seed s₂ → s₁ ≡ s₂
  one_vrd_pcg64_with_seed seed p q = p ∙ sym q

  pub one_vrd_pcg32_with_stream : (seed stream : ℕ) → VrdPcg32WithStreamPromise seed stream s₁ → VrdPcg32WithStreamPromise seed stream s₂
      → s₁ ≡ s₂
  one_vrd_pcg32_with_stream seed stream p q = p ∙ sym q

  pub one_vrd_pcg64_with_stream : (seed stream : Wide) → VrdPcg64WithStreamPromise seed stream s₁
      → VrdPcg64WithStreamPromise seed stream s₂ → s₁ ≡ s₂
  one_vrd_pcg64_with_stream seed stream p q = p ∙ sym q

-- ---- calls without a table

pub one_vrd_set_mti : (s : List ℕ) (value : ℕ) {a b : ℕ} {s₁ s₂ : List ℕ} → VrdSetMtiPromise s value a s₁ → VrdSetMtiPromise s value b s₂
    → (a ≡ b) × (s₁ ≡ s₂)
one_vrd_set_mti s value p q = let e = told_apart (p [] ∙ sym (q [])) in (e.0, e.1)

pub one_vrd_mti : (s : List ℕ) {a b : Word} → VrdMtiPromise s a → VrdMtiPromise s b → a ≡ b
one_vrd_mti s p q = p ∙ sym q

pub one_vrd_split : (s c : List ℕ) {a b : ℕ} {s₁ s₂ c₁ c₂ : List ℕ} → VrdSplitPromise s c a s₁ c₁ → VrdSplitPromise s c b s₂ c₂
    → (a ≡ b) × (s₁ ≡ s₂) × (c₁ ≡ c₂)
one_vrd_split s c p q =
    let e = p ∙ sym q in (ap (λ (x : Halves). x.refusal) e, ap (λ (x : Halves). x.parent) e, ap (λ (x : Halves). x.child) e)

pub one_vrd_same : (s t o u : List ℕ) {a b : Equality} → VrdSamePromise s t o u a → VrdSamePromise s t o u b → a ≡ b
one_vrd_same s t o u {a} {b} p q =
    ap₂ (λ (n : ℕ) (e : _). record { refusal = n; equal = e }) (p.refusal ∙ sym q.refusal)
    (decides_once a.equal b.equal (Equal s t o u) p.equal q.equal)
