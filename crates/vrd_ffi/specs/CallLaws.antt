-- The calls over lists and buffers, splitting and equality: what the code builds of what the library answers.
use Rattle.std.specs.Prelude.{ℕ, ◌≤◌, ◌<◌, length, Bool, false, List, ◌≡◌}
use Rattle.std.proofs.Common.{arith, eq-eqb, ne_eqb, sym, ◌∙◌, ap₂}
use Rattle.words.specs.Refusal as refusal
use Rattle.random.specs.Generator.{words_of}
use Rattle.random.specs.Lent.{joined_with}
use Rattle.random.specs.declared.backend.Random.{Random}
use Rattle.random.specs.declared.engine.Engine.{Engine}
use Rattle.bounded.specs.Answers as library
use Rattle.bounded.specs.declared.answers.Answer.{Answer}
use Rattle.filling.specs.Fill.{FilledFrom}
use Rattle.parts.specs.Decides.{Decides, decides_no}
use Rattle.parts.specs.OwnParts.{own_parts}
use Rattle.parts.specs.Splitting.{engine_split}
use Rattle.parts.specs.Splitting.{Divided}
use Rattle.shuffle.specs.Shuffle.{shuffle_by, shuffled}
use Rattle.vrd_ffi.specs.declared.answers.Number.{Number}
use Rattle.lent_state.specs.Answers.{gives, formed, of_known}
use Rattle.lent_state.specs.AnswersLaws.{of_known_lem, of_unknown, settled, wrote}
use Rattle.vrd_ffi.specs.Handed.{number, number_of, listed, halves, divided}
use Rattle.vrd_ffi.specs.Promises.{VrdShufflePromise, VrdFillBytesPromise, VrdSplitPromise, VrdSamePromise}
use Rattle.lent_state.specs.State.{kind_in, engine_from, generator_in, state_with, state_after, state_of}

-- ---- lists and buffers

module _ (s t : List ℕ) (k : kind_in s ≤ 3) (u s' : List ℕ) where
  pub list_shuffled : (list : List ℕ) (budget : ℕ) (a : Answer Engine) (found : List ℕ)
      → library.joined_answer a u ≡ library.answer_from (generator_in s t) (shuffle_by (words_of (generator_in s t)) (length list) budget)
      → found ≡ shuffled (words_of (generator_in s t)) list budget → s' ≡ state_after a.refusal a.next s
      → VrdShufflePromise s t list budget (number a.value a.used a.refusal) s' u found
  list_shuffled list budget a found h q w =
      settled s t _ _ k a.refusal (listed (number a.value a.used a.refusal) found) a.next u s' w
      (ap₂ (λ (x : Answer Random) (l : List ℕ). formed (λ (y : Number). listed y l) (number_of x)) h q)

  pub bytes_filled : (dest bytes : List ℕ) (e : Engine) → FilledFrom (generator_in s t) (length dest) bytes (joined_with e u)
      → s' ≡ state_with e s → VrdFillBytesPromise s t dest refusal.answered s' u bytes
  bytes_filled dest bytes e h w =
      wrote s t _ _ k (listed refusal.answered bytes) e u s' w
      (ap₂ (λ (b : List ℕ) (g : Random). gives (listed refusal.answered b) g) h.content h.after)

-- ---- splitting

module _ (s c : List ℕ) where
  pub split_unknown : 3 < kind_in s → VrdSplitPromise s c refusal.kind s c
  split_unknown h = of_unknown s (halves refusal.kind s c) (divided s c (engine_split (engine_from s))) h

  module _ (k : kind_in s ≤ 3) (d : Divided Engine) (q : d ≡ engine_split (engine_from s)) where
    pub split_refused : (d.refusal ≡ 0 → ⊥) → VrdSplitPromise s c d.refusal s c
    split_refused h =
        let same : halves d.refusal s c ≡ divided s c d = rw (ne_eqb d.refusal 0 h) in
        rw (sym q) (same ∙ of_known_lem s (halves refusal.kind s c) (divided s c d) k)

    pub split_answered : d.refusal ≡ 0 → (s' c' : List ℕ) → s' ≡ state_with d.parent s → c' ≡ state_of d.child
        → VrdSplitPromise s c refusal.answered s' c'
    split_answered z s' c' v w =
        let same : halves refusal.answered s' c' ≡ divided s c d = rw (eq-eqb d.refusal 0 z, v, w) in
        rw (sym q) (same ∙ of_known_lem s (halves refusal.kind s c) (divided s c d) k)

-- ---- equality

module _ (s t o u : List ℕ) where
  pub same_first_unknown : 3 < kind_in s → VrdSamePromise s t o u (record { refusal = refusal.kind; equal = false })
  same_first_unknown h = record {
    refusal = of_unknown s refusal.kind (of_known o refusal.kind refusal.answered) h;
    equal = decides_no (λ e. let k = e.first in absurd (omega arith));
  }

  pub same_second_unknown : kind_in s ≤ 3 → 3 < kind_in o → VrdSamePromise s t o u (record { refusal = refusal.kind; equal = false })
  same_second_unknown k h = record {
    refusal = of_unknown o refusal.kind refusal.answered h ∙ of_known_lem s refusal.kind (of_known o refusal.kind refusal.answered) k;
    equal = decides_no (λ e. let l = e.second in absurd (omega arith));
  }

  pub same_known : kind_in s ≤ 3 → kind_in o ≤ 3 → (b : Bool) → Decides b (own_parts (generator_in s t) ≡ own_parts (generator_in o u))
      → VrdSamePromise s t o u (record { refusal = refusal.answered; equal = b })
  same_known k l b d = record {
    refusal = of_known_lem o refusal.kind refusal.answered l ∙ of_known_lem s refusal.kind (of_known o refusal.kind refusal.answered) k;
    equal = (λ e. record { first = k; second = l; own = d.0 e }, λ e. d.1 e.own);
  }
