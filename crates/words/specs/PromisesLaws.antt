-- Each promise leaves one answer: two that both meet it are equal.
use Rattle.std.specs.Prelude.{Bool, ◌≡◌, ℕ, Option, Result}
use Rattle.std.proofs.Common.{sym, ◌∙◌, ap₂}
use Rattle.words.specs.declared.outcome.Outcome.{Outcome}
use Rattle.words.specs.declared.refusal.Refusal.{Refusal}
use Rattle.words.specs.declared.reply.Given.{Given}
use Rattle.words.specs.declared.reply.Reply.{Reply}
use Rattle.words.specs.Promises.{GivesPromise, IsGoodPromise, NumberedPromise, ProductPromise, QuotientPromise, RaisedPromise}
use Rattle.words.specs.Promises.{CheckNumberPromise, RaisesPromise}
use Rattle.words.specs.NumbersLaws.{numbers_apart}
use Rattle.words.specs.Promises.{RefusalNumberPromise, RefusedPromise, RefusesPromise, RepliesPromise, ThresholdPromise}

pub one_product : (w r : ℕ) {a b : ℕ} → ProductPromise w r a → ProductPromise w r b → a ≡ b
one_product w r p q = p ∙ sym q

pub one_threshold : (r : ℕ) {a b : ℕ} → ThresholdPromise r a → ThresholdPromise r b → a ≡ b
one_threshold r p q = p ∙ sym q

pub one_is_good : (w r : ℕ) {a b : Bool} → IsGoodPromise w r a → IsGoodPromise w r b → a ≡ b
one_is_good w r p q = p ∙ sym q

pub one_quotient : (w r : ℕ) {a b : ℕ} → QuotientPromise w r a → QuotientPromise w r b → a ≡ b
one_quotient w r p q = p ∙ sym q

pub one_refused : (number : ℕ) {a b : Outcome} → RefusedPromise number a → RefusedPromise number b → a ≡ b
one_refused number p q = p ∙ sym q

pub one_gives : (value used : ℕ) {a b : Outcome} → GivesPromise value used a → GivesPromise value used b → a ≡ b
one_gives value used p q = p ∙ sym q

pub one_raised : (n : ℕ) (o : Outcome) {a b : Outcome} → RaisedPromise n o a → RaisedPromise n o b → a ≡ b
one_raised n o p q = p ∙ sym q

pub one_refusal_number : (r : Refusal) {a b : ℕ} → RefusalNumberPromise r a → RefusalNumberPromise r b → a ≡ b
one_refusal_number r p q = p ∙ sym q

pub one_check_number : (r : Option Refusal) {a b : ℕ} → CheckNumberPromise r a → CheckNumberPromise r b → a ≡ b
one_check_number r p q = p ∙ sym q

pub one_replies : {T G : Type 0} (value : T) (used : ℕ) (next : G) {a b : Reply T G}
    → RepliesPromise value used next a → RepliesPromise value used next b → a ≡ b
one_replies value used next p q = p ∙ sym q

pub one_refuses : {T G : Type 0} (refusal : Refusal) (next : G) {a b : Reply T G}
    → RefusesPromise refusal next a → RefusesPromise refusal next b → a ≡ b
one_refuses refusal next p q = p ∙ sym q

pub one_numbered : (told : Result (Given ℕ) Refusal) {a b : Outcome} → NumberedPromise told a → NumberedPromise told b → a ≡ b
one_numbered told p q = p ∙ sym q

pub one_raises : {G : Type 0} (n : ℕ) (a : Reply ℕ G) {r r' : Reply ℕ G} → RaisesPromise n a r → RaisesPromise n a r' → r ≡ r'
one_raises {G} n a {r} {r'} p q =
    ap₂ (λ (g : G) (t : Result (Given ℕ) Refusal). record { next = g; told = t }) (p.1 ∙ sym q.1)
    (numbers_apart r.told r'.told (p.0 ∙ sym q.0))
