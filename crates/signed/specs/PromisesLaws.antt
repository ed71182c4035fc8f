-- Each promise leaves one answer: two that both meet it are equal.
use Rattle.std.specs.Prelude.{◌≡◌, ℕ, ℤ}
use Rattle.std.proofs.Common.{sym, ◌∙◌}
use Rattle.signed.specs.Promises.{SignedU32Promise, SignedU64Promise, SpanOfPromise, WrappingAddSignedPromise}

pub one_signed_u32 : (w : ℕ) {a b : ℤ} → SignedU32Promise w a → SignedU32Promise w b → a ≡ b
one_signed_u32 w p q = p ∙ sym q

pub one_signed_u64 : (w : ℕ) {a b : ℤ} → SignedU64Promise w a → SignedU64Promise w b → a ≡ b
one_signed_u64 w p q = p ∙ sym q

pub one_wrapping_add_signed : (x : ℤ) (w : ℕ) {a b : ℤ} → WrappingAddSignedPromise x w a → WrappingAddSignedPromise x w b → a ≡ b
one_wrapping_add_signed x w p q = p ∙ sym q

pub one_span_of : (min max : ℤ) {a b : ℕ} → SpanOfPromise min max a → SpanOfPromise min max b → a ≡ b
one_span_of min max p q = p ∙ sym q
