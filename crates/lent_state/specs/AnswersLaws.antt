-- The laws of the rule: a kind above 3 is refused; of every other what is told is the library's reply, written back; and what is told is
-- that answer, that state and that table.
use Rattle.std.specs.Prelude.{◌≡◌, refl, Bool, true, false, List, ℕ, ◌≤◌, ◌<◌, leb}
use Rattle.std.proofs.Common.{◌∙◌, ap, le-leb, ne_eqb}
use Rattle.std.proofs.lemmas.Bool.{lt-leb}
use Rattle.words.specs.Refusal as refusal
use Rattle.random.specs.Lent.{joined_with}
use Rattle.random.specs.declared.backend.Random.{Random}
use Rattle.random.specs.declared.engine.Engine.{Engine}
use Rattle.lent_state.specs.State.{kind_in, engine_from, generator_in, state_with, state_after}
use Rattle.lent_state.specs.Answers.{Told, told, Reply, reply, gives, formed, of_known, written, at_boundary}

pub told_apart : {A : Type 0} {a b : A} {s s' t t' : List ℕ} → told a s t ≡ told b s' t' → (a ≡ b) × (s ≡ s') × (t ≡ t')
told_apart {A} h = (ap (λ (x : Told A). x.answer) h, ap (λ (x : Told A). x.state) h, ap (λ (x : Told A). x.table) h)

module _ {A : Type 0} (s : List ℕ) (refused known : A) where
  pub of_unknown : 3 < kind_in s → refused ≡ of_known s refused known
  unfolding of_known
  of_unknown h = rw (lt-leb (kind_in s) 3 h)

  pub of_known_lem : kind_in s ≤ 3 → known ≡ of_known s refused known
  unfolding of_known
  of_known_lem h = rw (le-leb (kind_in s) 3 h)

module _ {A : Type 0} (s t : List ℕ) (none : A) (call : Random → Reply A) where
  pub unknown_kind : 3 < kind_in s → told none s t ≡ at_boundary s t none call
  unfolding at_boundary
  unknown_kind h = of_unknown s (told none s t) (written s (call (generator_in s t))) h

  pub known_kind : kind_in s ≤ 3 → written s (call (generator_in s t)) ≡ at_boundary s t none call
  unfolding at_boundary
  known_kind h = of_known_lem s (told none s t) (written s (call (generator_in s t))) h

  -- the engine and the table that a library call leaves, settled into the state
  pub settled : kind_in s ≤ 3 → (n : ℕ) (a : A) (e : Engine) (u s' : List ℕ) → s' ≡ state_after n e s
      → reply n a (joined_with e u) ≡ call (generator_in s t) → told a s' u ≡ at_boundary s t none call
  settled k n a e u s' w h = ap (λ (x : List ℕ). told a x u) w ∙ ap (written s) h ∙ known_kind k

  -- the same where the call refuses nothing
  pub wrote : kind_in s ≤ 3 → (a : A) (e : Engine) (u s' : List ℕ) → s' ≡ state_with e s
      → gives a (joined_with e u) ≡ call (generator_in s t) → told a s' u ≡ at_boundary s t none call
  unfolding state_after
  wrote k a e u s' w h = settled k 0 a e u s' w h

  -- a refused call, of which nothing was written
  pub kept : kind_in s ≤ 3 → (n : ℕ) (a : A) → (n ≡ refusal.answered → ⊥) → reply n a (generator_in s t) ≡ call (generator_in s t)
      → told a s t ≡ at_boundary s t none call
  unfolding state_after
  kept k n a h e = settled k n a (engine_from s) t s (rw (ne_eqb n 0 h)) e

-- two calls that reply the same of the generator that was lent
pub same_reply : {A : Type 0} (s t : List ℕ) (none : A) (one two : Random → Reply A) → one (generator_in s t) ≡ two (generator_in s t)
    → at_boundary s t none one ≡ at_boundary s t none two
unfolding at_boundary
same_reply {A} s t none one two h = ap (λ (r : Reply A). of_known s (told none s t) (written s r)) h

-- an answer handed out in another form
pub told_formed : {A B : Type 0} (s t : List ℕ) (none : A) (call : Random → Reply A) (f : A → B) {a : A} {s' t' : List ℕ}
    → told a s' t' ≡ at_boundary s t none call → told (f a) s' t' ≡ at_boundary s t (f none) (λ g. formed f (call g))
unfolding at_boundary of_known
told_formed {A} {B} s t none call f h = ap (λ (x : Told A). told (f x.answer) x.state x.table) h ∙ go (leb (kind_in s) 3) refl
  where
    go : (b : Bool) → leb (kind_in s) 3 ≡ b
        → told (f (at_boundary s t none call).answer) (at_boundary s t none call).state (at_boundary s t none call).table
        ≡ at_boundary s t (f none) (λ g. formed f (call g))
    go true e = rw e
    go false e = rw e
