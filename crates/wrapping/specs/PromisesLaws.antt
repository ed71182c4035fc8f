-- Each promise leaves one answer: two that both meet it are equal.
use Rattle.std.specs.Prelude.{◌≡◌, ℕ, List}
use Rattle.std.proofs.Common.{sym, ◌∙◌}
use Rattle.wrapping.specs.Promises.{LeU32Promise, LeU64Promise, MulU32Promise, MulU64Promise, RotateLeftU32Promise}
use Rattle.wrapping.specs.Promises.{RotateLeftU64Promise, RotateRightU32Promise, RotateRightU64Promise, UpperU64Promise}
use Rattle.wrapping.specs.Promises.{WideWrappingAddPromise, WideWrappingMulPromise}
use Rattle.wrapping.specs.declared.wide.Wide.{Wide}

pub one_le_u32 : (s : List ℕ) (at : ℕ) {a b : ℕ} → LeU32Promise s at a → LeU32Promise s at b → a ≡ b
one_le_u32 s at p q = p ∙ sym q

pub one_le_u64 : (s : List ℕ) (at : ℕ) {a b : ℕ} → LeU64Promise s at a → LeU64Promise s at b → a ≡ b
one_le_u64 s at p q = p ∙ sym q

pub one_mul_u32 : (a b : ℕ) {r r' : ℕ} → MulU32Promise a b r → MulU32Promise a b r' → r ≡ r'
one_mul_u32 a b p q = p ∙ sym q

pub one_mul_u64 : (a b : ℕ) {r r' : ℕ} → MulU64Promise a b r → MulU64Promise a b r' → r ≡ r'
one_mul_u64 a b p q = p ∙ sym q

pub one_upper_u64 : (a b : ℕ) {r r' : ℕ} → UpperU64Promise a b r → UpperU64Promise a b r' → r ≡ r'
one_upper_u64 a b p q = p ∙ sym q

pub one_rotate_left_u32 : (x k : ℕ) {a b : ℕ} → RotateLeftU32Promise x k a → RotateLeftU32Promise x k b → a ≡ b
one_rotate_left_u32 x k p q = p ∙ sym q

pub one_rotate_right_u32 : (x k : ℕ) {a b : ℕ} → RotateRightU32Promise x k a → RotateRightU32Promise x k b → a ≡ b
one_rotate_right_u32 x k p q = p ∙ sym q

pub one_rotate_left_u64 : (x k : ℕ) {a b : ℕ} → RotateLeftU64Promise x k a → RotateLeftU64Promise x k b → a ≡ b
one_rotate_left_u64 x k p q = p ∙ sym q

pub one_rotate_right_u64 : (x k : ℕ) {a b : ℕ} → RotateRightU64Promise x k a → RotateRightU64Promise x k b → a ≡ b
one_rotate_right_u64 x k p q = p ∙ sym q

pub one_wide_wrapping_add : (self other : Wide) {a b : Wide}
    → WideWrappingAddPromise self other a → WideWrappingAddPromise self other b → a ≡ b
one_wide_wrapping_add self other p q = p ∙ sym q

pub one_wide_wrapping_mul : (self other : Wide) {a b : Wide}
    → WideWrappingMulPromise self other a → WideWrappingMulPromise self other b → a ≡ b
one_wide_wrapping_mul self other p q = p ∙ sym q
