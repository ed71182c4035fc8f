-- Refused, nothing changes: of each export that can refuse, by its promise. Where the refusal that it answers is not 0, the state and the
-- table afterwards are the very ones that came, and so is the list or the buffer.
use Rattle.std.specs.Prelude.{ℕ, eqb, Float, ℤ, length, Bool, List, [], ◌⊎◌, ◌≡◌}
use Rattle.std.proofs.Math.Decide.{dec_le}
use Rattle.std.proofs.Common.{lt_of_not-le, eqb-true, ne_eqb, inl, inr, sym, ◌∙◌}
use Rattle.std.proofs.Math.Bool.{true, false}
use Rattle.std.proofs.Math.Path.{refl, ap}
use Rattle.words.specs.Draw.{Words}
use Rattle.words.specs.Refusal as refusal
use Rattle.words.specs.declared.outcome.Outcome.{Outcome}
use Rattle.random.specs.Generator.{later, words_of, word64_of}
use Rattle.random.specs.GeneratorLaws.{later_none}
use Rattle.random.specs.Lent.{table_in}
use Rattle.random.specs.declared.backend.Random.{Random}
use Rattle.random.specs.declared.engine.Engine.{Engine}
use Rattle.floats.specs.Chances as chances
use Rattle.floats.proofs.IntervalLaws.{refusal_of_uniform}
use Rattle.floats.specs.Intervals.{refusal_of}
use Rattle.floats.specs.declared.intervals.Interval.{Interval}
use Rattle.floats.specs.declared.intervals.Uniform.{Uniform}
use Rattle.floats.specs.declared.intervals.Uniform.TheVariants as uniform
use Rattle.bounded.specs.Answers as library
use Rattle.bounded.specs.Budgeted.{Budgeted, bounded_budgeted, range_budgeted, char_budgeted}
use Rattle.spans.specs.IntAnswers.{int_answer_from}
use Rattle.spans.specs.SpanBudgeted.{uint_budgeted, int_unused}
use Rattle.lists.specs.Choosing as choosing
use Rattle.lists.proofs.ChoosingOutcomes.{place_budgeted}
use Rattle.lists.specs.Slicing as slicing
use Rattle.lists.specs.SlicingOutcomes.{slice_budgeted}
use Rattle.shuffle.specs.OneShuffle.{refused_list}
use Rattle.shuffle.specs.Shuffle.{shuffle_by, shuffled}
use Rattle.shuffle.specs.ShuffleBudgeted.{shuffle_budgeted}
use Rattle.filling.specs.Fill.{filled_bytes, fill_words}
use Rattle.float_draws.specs.Coins.{flip_from}
use Rattle.float_draws.proofs.Laws.{flip_keeps, spread_keeps}
use Rattle.float_draws.specs.Spreads.{spread_from}
use Rattle.making.specs.Make.{made_bytes}
use Rattle.making.specs.Make.{Made}
use Rattle.parts.specs.Splitting.{engine_split}
use Rattle.parts.specs.Splitting.{Divided}
use Rattle.vrd_ffi.specs.declared.answers.Choice.{Choice}
use Rattle.vrd_ffi.specs.declared.answers.Coin.{Coin}
use Rattle.vrd_ffi.specs.declared.answers.Integer.{Integer}
use Rattle.vrd_ffi.specs.declared.answers.Number.{Number}
use Rattle.vrd_ffi.specs.declared.answers.Number32.{Number32}
use Rattle.vrd_ffi.specs.declared.answers.Number64.{Number64}
use Rattle.vrd_ffi.specs.declared.answers.SignedWord.{SignedWord}
use Rattle.vrd_ffi.specs.declared.answers.Word.{Word}
use Rattle.lent_state.specs.Answers.{Told, told, Reply, gives, formed, written, at_boundary}
use Rattle.lent_state.specs.AnswersLaws.{of_known_lem, of_unknown, known_kind, unknown_kind}
use Rattle.vrd_ffi.specs.Handed.{number, drawn_by, uniform_number, Listed, listed, made, Halves, halves, divided}
use Rattle.vrd_ffi.specs.Promises.{VrdBoundedPromise, VrdRandomRangePromise, VrdCharPromise}
use Rattle.vrd_ffi.specs.Promises.{VrdUintPromise, VrdIntPromise, VrdRangePromise}
use Rattle.vrd_ffi.specs.Promises.{VrdChoosePromise, VrdRandSlicePromise, VrdShufflePromise}
use Rattle.vrd_ffi.specs.Promises.{VrdRandPromise, VrdU64Promise, VrdI64Promise, VrdPseudoPromise}
use Rattle.vrd_ffi.specs.Promises.{VrdFloatPromise, VrdDoublePromise, VrdSeedPromise, VrdTwistPromise}
use Rattle.vrd_ffi.specs.Promises.{VrdFillBytesPromise, VrdSetMtiPromise}
use Rattle.vrd_ffi.specs.Promises.{VrdBoolPromise, VrdUniformPromise, VrdMakePromise, VrdSplitPromise}
use Rattle.lent_state.specs.State.{kind_in, engine_from, generator_in, state_after}

-- a number that stands for a refusal
abbrev pub IsRefusal : ℕ → Type 0
IsRefusal n = n ≡ refusal.answered → ⊥

-- ---- the law

-- what it asks of the library's call: the answer tells the refusal, and refused, the next generator is the one that came
pub record Unmoved {A : Type 0} (number : A → ℕ) (call : Random → Reply A) (g : Random) : Type 0 where
  pub tells : number (call g).answer ≡ (call g).refusal
  pub stays : IsRefusal (call g).refusal → (call g).next ≡ g

-- what a refused call has told: the boundary's refusal, or the library's, written back
abbrev Ways : {A : Type 0} → List ℕ → List ℕ → A → (Random → Reply A) → Told A → Type 0
Ways s t none call x =
    (x ≡ told none s t) ⊎ (IsRefusal (call (generator_in s t)).refusal × (x ≡ written s (call (generator_in s t))))

module _ {A : Type 0} (number : A → ℕ) (s t : List ℕ) (none : A) (call : Random → Reply A) (u : Unmoved number call (generator_in s t))
    {a : A} {s' t' : List ℕ} (p : told a s' t' ≡ at_boundary s t none call) (h : IsRefusal (number a)) where
  which : Ways s t none call (told a s' t')
  which =
      elim (dec_le (kind_in s) 3) [
        | no k ↦ inl (p ∙ sym (unknown_kind s t none call (lt_of_not-le k)))
        | yes k ↦
            let q = p ∙ sym (known_kind s t none call k) in
            inr (λ z. h (ap (λ (x : Told A). number x.answer) q ∙ u.tells ∙ z), q)
      ]

  -- THE LAW: refused, state and table are the ones that came
  pub refused_export : (s' ≡ s) × (t' ≡ t)
  unfolding state_after
  refused_export = go which
    where
      go : Ways s t none call (told a s' t') → (s' ≡ s) × (t' ≡ t)
      go (inl q) = (ap (λ (x : Told A). x.state) q, ap (λ (x : Told A). x.table) q)
      go (inr (n, q)) =
          let kept = rw (ne_eqb (call (generator_in s t)).refusal 0 n) at (ap (λ (x : Told A). x.state) q) in
          (kept, ap (λ (x : Told A). x.table) q ∙ ap table_in (u.stays n))

-- the generator after no words
back : {n : ℕ} (g : Random) → n ≡ 0 → later n g ≡ g
back g e = ap (λ (k : ℕ). later k g) e ∙ later_none g

-- every budgeted call is such a call
unmoved_draw : {call : Words → ℕ → Outcome} → Budgeted call → (budget : ℕ) (g : Random)
    → Unmoved (λ (a : Number). a.refusal) (drawn_by (λ w. call w budget)) g
unfolding library.answer_from
unmoved_draw d budget g = record { tells = refl; stays = λ h. back g (d.unused (words_of g) budget h) }

module _ {s t s' t' : List ℕ} where
  -- a draw's export
  draw_keeps : {call : Words → ℕ → Outcome} → Budgeted call → (budget : ℕ) {a : Number}
      → told a s' t' ≡ at_boundary s t (number 0 0 refusal.kind) (drawn_by (λ w. call w budget)) → IsRefusal a.refusal
      → (s' ≡ s) × (t' ≡ t)
  draw_keeps d budget p h = refused_export (λ (a : Number). a.refusal) s t _ _ (unmoved_draw d budget (generator_in s t)) p h

  -- ---- numbers

  -- `vrd_bounded_in`
  pub bounded_keeps : (r budget : ℕ) {a : Number} → VrdBoundedPromise s t r budget a s' t' → IsRefusal a.refusal → (s' ≡ s) × (t' ≡ t)
  bounded_keeps r budget = draw_keeps (bounded_budgeted r) budget

  -- `vrd_random_range_in`
  pub random_range_keeps : (min max budget : ℕ) {a : Number} → VrdRandomRangePromise s t min max budget a s' t' → IsRefusal a.refusal
      → (s' ≡ s) × (t' ≡ t)
  random_range_keeps min max budget = draw_keeps (range_budgeted min max) budget

  -- `vrd_char_in`
  pub char_keeps : (budget : ℕ) {a : Number} → VrdCharPromise s t budget a s' t' → IsRefusal a.refusal → (s' ≡ s) × (t' ≡ t)
  char_keeps budget = draw_keeps char_budgeted budget

  -- `vrd_uint_in`
  pub uint_keeps : (min max budget : ℕ) {a : Number} → VrdUintPromise s t min max budget a s' t' → IsRefusal a.refusal
      → (s' ≡ s) × (t' ≡ t)
  uint_keeps min max budget = draw_keeps (uint_budgeted min max) budget

  -- `vrd_int_in`
  pub int_keeps : (min max : ℤ) (budget : ℕ) {a : Integer} → VrdIntPromise s t min max budget a s' t' → IsRefusal a.refusal
      → (s' ≡ s) × (t' ≡ t)
  unfolding int_answer_from
  int_keeps min max budget =
      let g = generator_in s t in
      refused_export (λ (a : Integer). a.refusal) s t _ _
      (record { tells = refl; stays = λ h. back g (int_unused min max (words_of g) budget h) })

  -- `vrd_range_in`
  pub range_keeps : (min max : ℤ) (budget : ℕ) {a : Integer} → VrdRangePromise s t min max budget a s' t' → IsRefusal a.refusal
      → (s' ≡ s) × (t' ≡ t)
  range_keeps = int_keeps

  -- ---- lists

  -- `vrd_choose_in`
  pub choose_keeps : (list : List ℕ) (budget : ℕ) {a : Choice} → VrdChoosePromise s t list budget a s' t' → IsRefusal a.refusal
      → (s' ≡ s) × (t' ≡ t)
  unfolding choosing.choice_from choosing.choose_by choosing.entry_of
  choose_keeps list budget =
      let g = generator_in s t in
      refused_export (λ (a : Choice). a.refusal) s t _ _
      (record { tells = refl; stays = λ h. back g ((place_budgeted (length list)).unused (words_of g) budget h) })

  -- `vrd_rand_slice_in`
  pub rand_slice_keeps : (list : List ℕ) (window budget : ℕ) {a : Number} → VrdRandSlicePromise s t list window budget a s' t'
      → IsRefusal a.refusal → (s' ≡ s) × (t' ≡ t)
  unfolding slicing.start_from slicing.start_of
  rand_slice_keeps list window budget =
      let g = generator_in s t in
      refused_export (λ (a : Number). a.refusal) s t _ _
      (record { tells = refl; stays = λ h. back g ((slice_budgeted (length list) window).unused (words_of g) budget h) })

  -- `vrd_shuffle_in`: the list too
  pub shuffle_keeps : (list : List ℕ) (budget : ℕ) {a : Number} {list' : List ℕ} → VrdShufflePromise s t list budget a s' t' list'
      → IsRefusal a.refusal → (list' ≡ list) × (s' ≡ s) × (t' ≡ t)
  unfolding library.answer_from
  shuffle_keeps list budget {a} {list'} p h =
      let (state, table) = refused_export refusal_in s t _ shuffling own p h in
      (go (which refusal_in s t _ shuffling own p h), state, table)
    where
      g : Random
      g = generator_in s t

      refusal_in : Listed Number → ℕ
      refusal_in x = x.answer.refusal

      shuffling : Random → Reply (Listed Number)
      shuffling g = formed (λ (x : Number). listed x (shuffled (words_of g) list budget))
          (drawn_by (λ w. shuffle_by w (length list) budget) g)

      own : Unmoved refusal_in shuffling g
      own = record { tells = refl; stays = (unmoved_draw (shuffle_budgeted (length list)) budget g).stays }

      go : Ways s t (listed (number 0 0 refusal.kind) list) shuffling (told (listed a list') s' t') → list' ≡ list
      go (inl q) = ap (λ (x : Told (Listed Number)). x.answer.list) q
      go (inr (n, q)) = ap (λ (x : Told (Listed Number)). x.answer.list) q ∙ refused_list (words_of g) list budget n

  -- ---- floats

  -- `vrd_bool_in`
  pub bool_keeps : (chance : Float) {a : Coin} → VrdBoolPromise s t chance a s' t' → IsRefusal a.refusal → (s' ≡ s) × (t' ≡ t)
  unfolding flip_from
  bool_keeps p =
      refused_export (λ (a : Coin). a.refusal) s t _ _
      (record { tells = refl; stays = λ h. flip_keeps (generator_in s t) p (outside (chances.is_chance p) refl h) })
    where
      outside : (b : Bool) → chances.is_chance p ≡ b → IsRefusal (chances.chance_refusal p) → chances.is_chance p ≡ false
      outside true e h = absurd (h (rw e))
      outside false e h = e

  -- `vrd_uniform_in`
  pub uniform_keeps : (low high : Float) {a : Number64} → VrdUniformPromise s t low high a s' t' → IsRefusal a.refusal
      → (s' ≡ s) × (t' ≡ t)
  unfolding spread_from
  uniform_keeps low high =
      let g = generator_in s t in
      let i : Interval = record { low = low; high = high } in
      refused_export (λ (a : Number64). a.refusal) s t _ _
      (record { tells = tells (spread_from g i).answer; stays = λ h. spread_keeps g i (λ z. h (refusal_of_uniform i (word64_of g) ∙ z)) })
    where
      tells : (u : Uniform) → (uniform_number u).refusal ≡ refusal_of u
      tells (uniform.Number v) = refl
      tells (uniform.Refused n) = refl

  -- ---- makings of bytes

  -- `vrd_make_in`
  pub make_keeps : (kind : ℕ) (seed : List ℕ) {r : ℕ} → VrdMakePromise s t kind seed r s' t' → IsRefusal r → (s' ≡ s) × (t' ≡ t)
  make_keeps kind seed {r} p h = go (made_bytes kind seed) (eqb (made_bytes kind seed).refusal refusal.answered) refl p
    where
      go : (m : Made) (b : Bool) → eqb m.refusal refusal.answered ≡ b → told r s' t' ≡ made s t m → (s' ≡ s) × (t' ≡ t)
      go m true e q = absurd (h (ap (λ (x : Told ℕ). x.answer) (rw e at q) ∙ eqb-true m.refusal refusal.answered e))
      go m false e q =
          let same = rw e at q in
          (ap (λ (x : Told ℕ). x.state) same, ap (λ (x : Told ℕ). x.table) same)

  -- ---- the calls that refuse nothing but the kind

  -- an export that answers always
  given_keeps : {A : Type 0} (number : A → ℕ) (none : A) (answer : Random → A) (next : Random → Random)
      → number (answer (generator_in s t)) ≡ refusal.answered → {a : A}
      → told a s' t' ≡ at_boundary s t none (λ g. gives (answer g) (next g)) → IsRefusal (number a) → (s' ≡ s) × (t' ≡ t)
  given_keeps number none answer next e =
      refused_export number s t none (λ g. gives (answer g) (next g)) (record { tells = e; stays = λ h. absurd (h refl) })

  -- `vrd_rand_in`
  pub rand_keeps : {a : Word} → VrdRandPromise s t a s' t' → IsRefusal a.refusal → (s' ≡ s) × (t' ≡ t)
  rand_keeps = given_keeps (λ (a : Word). a.refusal) _ _ _ refl

  -- `vrd_u64_in`
  pub u64_keeps : {a : Word} → VrdU64Promise s t a s' t' → IsRefusal a.refusal → (s' ≡ s) × (t' ≡ t)
  u64_keeps = given_keeps (λ (a : Word). a.refusal) _ _ _ refl

  -- `vrd_i64_in`
  pub i64_keeps : {a : SignedWord} → VrdI64Promise s t a s' t' → IsRefusal a.refusal → (s' ≡ s) × (t' ≡ t)
  i64_keeps = given_keeps (λ (a : SignedWord). a.refusal) _ _ _ refl

  -- `vrd_pseudo_in`
  pub pseudo_keeps : {a : Word} → VrdPseudoPromise s t a s' t' → IsRefusal a.refusal → (s' ≡ s) × (t' ≡ t)
  pseudo_keeps = given_keeps (λ (a : Word). a.refusal) _ _ _ refl

  -- `vrd_float_in`
  pub float_keeps : {a : Number32} → VrdFloatPromise s t a s' t' → IsRefusal a.refusal → (s' ≡ s) × (t' ≡ t)
  float_keeps = given_keeps (λ (a : Number32). a.refusal) _ _ _ refl

  -- `vrd_double_in`
  pub double_keeps : {a : Number64} → VrdDoublePromise s t a s' t' → IsRefusal a.refusal → (s' ≡ s) × (t' ≡ t)
  double_keeps = given_keeps (λ (a : Number64). a.refusal) _ _ _ refl

  -- `vrd_seed_in`
  pub seed_keeps : (seed : ℕ) {r : ℕ} → VrdSeedPromise s t seed r s' t' → IsRefusal r → (s' ≡ s) × (t' ≡ t)
  seed_keeps seed = given_keeps (λ (n : ℕ). n) _ _ _ refl

  -- `vrd_twist_in`
  pub twist_keeps : {r : ℕ} → VrdTwistPromise s t r s' t' → IsRefusal r → (s' ≡ s) × (t' ≡ t)
  twist_keeps = given_keeps (λ (n : ℕ). n) _ _ _ refl

  -- `vrd_fill_bytes_in`: the buffer too
  pub fill_bytes_keeps : (dest : List ℕ) {r : ℕ} {dest' : List ℕ} → VrdFillBytesPromise s t dest r s' t' dest' → IsRefusal r
      → (dest' ≡ dest) × (s' ≡ s) × (t' ≡ t)
  fill_bytes_keeps dest {r} {dest'} p h =
      let (state, table) = refused_export number s t _ filling own p h in
      (go (which number s t _ filling own p h), state, table)
    where
      number : Listed ℕ → ℕ
      number x = x.answer

      filling : Random → Reply (Listed ℕ)
      filling g = gives (listed refusal.answered (filled_bytes g (length dest))) (later (fill_words g (length dest)) g)

      own : Unmoved number filling (generator_in s t)
      own = record { tells = refl; stays = λ n. absurd (n refl) }

      go : Ways s t (listed refusal.kind dest) filling (told (listed r dest') s' t') → dest' ≡ dest
      go (inl q) = ap (λ (x : Told (Listed ℕ)). x.answer.list) q
      go (inr (n, q)) = absurd (n refl)

-- ---- what is lent no table

-- `vrd_set_mti_in`
pub set_mti_keeps : (s : List ℕ) (value : ℕ) {r : ℕ} {s' : List ℕ} → VrdSetMtiPromise s value r s' → IsRefusal r → s' ≡ s
set_mti_keeps s value p h = (given_keeps {t = []} {t' = []} (λ (n : ℕ). n) _ _ _ refl (p []) h).0

-- `vrd_split_in`: both states
pub split_keeps : (s c : List ℕ) {r : ℕ} {s' c' : List ℕ} → VrdSplitPromise s c r s' c' → IsRefusal r → (s' ≡ s) × (c' ≡ c)
split_keeps s c {r} {s'} {c'} p h =
    elim (dec_le (kind_in s) 3) [
      | no k ↦ parts (p ∙ sym (of_unknown s (halves refusal.kind s c) (divided s c split) (lt_of_not-le k)))
      | yes k ↦ go split (eqb split.refusal refusal.answered) refl
          (p ∙ sym (of_known_lem s (halves refusal.kind s c) (divided s c split) k))
    ]
  where
    split : Divided Engine
    split = engine_split (engine_from s)

    parts : {n : ℕ} → halves r s' c' ≡ halves n s c → (s' ≡ s) × (c' ≡ c)
    parts q = (ap (λ (x : Halves). x.parent) q, ap (λ (x : Halves). x.child) q)

    go : (d : Divided Engine) (b : Bool) → eqb d.refusal refusal.answered ≡ b → halves r s' c' ≡ divided s c d → (s' ≡ s) × (c' ≡ c)
    go d true e q = absurd (h (ap (λ (x : Halves). x.refusal) (rw e at q)))
    go d false e q = parts (rw e at q)
