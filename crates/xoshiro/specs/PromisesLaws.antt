-- Each promise leaves one answer: two that both meet it are equal.
use Rattle.std.specs.Prelude.{◌≡◌, ℕ, List}
use Rattle.std.proofs.Common.{sym, ◌∙◌}
use Rattle.xoshiro.specs.Promises.{XoshiroFromPartsPromise, XoshiroFromSeedPromise, XoshiroFromU64SeedPromise}
use Rattle.xoshiro.specs.Promises.{XoshiroJumpPromise, XoshiroNextU32Promise, XoshiroNextU64Promise}
use Rattle.source.specs.declared.Drawn.{Drawn}
use Rattle.xoshiro.specs.declared.Xoshiro256PlusPlus.{Xoshiro256PlusPlus}

pub one_xoshiro_from_parts : (s0 s1 s2 s3 : ℕ) {a b : Xoshiro256PlusPlus}
    → XoshiroFromPartsPromise s0 s1 s2 s3 a → XoshiroFromPartsPromise s0 s1 s2 s3 b → a ≡ b
one_xoshiro_from_parts s0 s1 s2 s3 p q = p ∙ sym q

pub one_xoshiro_from_u64_seed : (seed : ℕ) {a b : Xoshiro256PlusPlus}
    → XoshiroFromU64SeedPromise seed a → XoshiroFromU64SeedPromise seed b → a ≡ b
one_xoshiro_from_u64_seed seed p q = p ∙ sym q

pub one_xoshiro_from_seed : (seed : List ℕ) {a b : Xoshiro256PlusPlus}
    → XoshiroFromSeedPromise seed a → XoshiroFromSeedPromise seed b → a ≡ b
one_xoshiro_from_seed seed p q = p ∙ sym q

pub one_xoshiro_next_u64 : (self : Xoshiro256PlusPlus) {a b : Drawn ℕ Xoshiro256PlusPlus}
    → XoshiroNextU64Promise self a → XoshiroNextU64Promise self b → a ≡ b
one_xoshiro_next_u64 self p q = p ∙ sym q

pub one_xoshiro_next_u32 : (self : Xoshiro256PlusPlus) {a b : Drawn ℕ Xoshiro256PlusPlus}
    → XoshiroNextU32Promise self a → XoshiroNextU32Promise self b → a ≡ b
one_xoshiro_next_u32 self p q = p ∙ sym q

pub one_xoshiro_jump : (self : Xoshiro256PlusPlus) {a b : Xoshiro256PlusPlus}
    → XoshiroJumpPromise self a → XoshiroJumpPromise self b → a ≡ b
one_xoshiro_jump self p q = p ∙ sym q
