-- Each promise leaves one answer: two that both meet it are equal.
use Rattle.std.specs.Prelude.{Bool, List, Option, ◌≡◌, ℕ}
use Rattle.std.proofs.Common.{sym, ◌∙◌, ap, ap₂}
use Rattle.random.specs.LentLaws.{joined_apart}
use Rattle.random.specs.declared.backend.Backend.{Backend}
use Rattle.random.specs.declared.backend.Random.{Random}
use Rattle.random.specs.declared.engine.Engine.{Engine}
use Rattle.parts.specs.Decides.{decides_once}
use Rattle.parts.specs.Promises.{KindPromise, MtiInPromise, MtiPromise, SameInPromise, SamePromise, SameWordsPromise, SetMtiInPromise}
use Rattle.parts.specs.Promises.{SetMtiPromise, SmallWordsPromise, SplitInPromise, SplitPromise, PartsTwistInPromise, TwistPromise}
use Rattle.parts.specs.declared.read_out.Small.{Small}
use Rattle.parts.specs.Splitting.{Divided, split_in_numbers}
use Rattle.parts.specs.declared.splitting.Divided as code
use Rattle.words.specs.NumbersLaws.{checks_apart}
use Rattle.words.specs.declared.refusal.Refusal.{Refusal}

pub one_same_words : (a b : List ℕ) {r r' : Bool} → SameWordsPromise a b r → SameWordsPromise a b r' → r ≡ r'
one_same_words a b p q = decides_once _ _ _ p q

pub one_same_in : (a : Engine) (mt : List ℕ) (b : Engine) (other : List ℕ) {r r' : Bool}
    → SameInPromise a mt b other r → SameInPromise a mt b other r' → r ≡ r'
one_same_in a mt b other p q = decides_once _ _ _ p q

pub one_same : (a b : Random) {r r' : Bool} → SamePromise a b r → SamePromise a b r' → r ≡ r'
one_same a b p q = decides_once _ _ _ p q

pub one_mti_in : (e : Engine) {a b : ℕ} → MtiInPromise e a → MtiInPromise e b → a ≡ b
one_mti_in e p q = p ∙ sym q

pub one_set_mti_in : (e : Engine) (value : ℕ) {a b : Engine} → SetMtiInPromise e value a → SetMtiInPromise e value b → a ≡ b
one_set_mti_in e value p q = p ∙ sym q

pub one_parts_twist_in : (e : Engine) (mt : List ℕ) {a b : Engine} {mt₁ mt₂ : List ℕ}
    → PartsTwistInPromise e mt a mt₁ → PartsTwistInPromise e mt b mt₂ → (a ≡ b) × (mt₁ ≡ mt₂)
one_parts_twist_in e mt p q = joined_apart (p ∙ sym q)

pub one_mti : (g : Random) {a b : ℕ} → MtiPromise g a → MtiPromise g b → a ≡ b
one_mti g p q = p ∙ sym q

pub one_set_mti : (g : Random) (value : ℕ) {a b : Random} → SetMtiPromise g value a → SetMtiPromise g value b → a ≡ b
one_set_mti g value p q = p ∙ sym q

pub one_twist : (g : Random) {a b : Random} → TwistPromise g a → TwistPromise g b → a ≡ b
one_twist g p q = p ∙ sym q

pub one_kind : (backend : Backend) {a b : ℕ} → KindPromise backend a → KindPromise backend b → a ≡ b
one_kind backend p q = p ∙ sym q

pub one_small_words : (backend : Backend) {a b : Small} → SmallWordsPromise backend a → SmallWordsPromise backend b → a ≡ b
one_small_words backend p q = p ∙ sym q

pub one_split_in : (e : Engine) {a b : Divided Engine} → SplitInPromise e a → SplitInPromise e b → a ≡ b
one_split_in e p q = p ∙ sym q

pub one_split : (g : Random) {a b : Divided Random} → SplitPromise g a → SplitPromise g b → a ≡ b
one_split g p q = p ∙ sym q

-- Two splits of the code that say the same in document 01's numbers are the same.
pub split_same : {G : Type 0} (a b : code.Divided G) → split_in_numbers a ≡ split_in_numbers b → a ≡ b
split_same {G} a b h =
    let refusals = checks_apart a.refusal b.refusal (ap (λ (d : Divided G). d.refusal) h) in
    ap₂ (λ (r : Option Refusal) (g : G × G). record { refusal = r; parent = g.0; child = g.1 }) refusals
    (ap (λ (d : Divided G). (d.parent, d.child)) h)
