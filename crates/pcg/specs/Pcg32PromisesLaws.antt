-- Each promise leaves one answer: two that both meet it are equal.
use Rattle.std.specs.Prelude.{◌≡◌, ℕ, List}
use Rattle.std.proofs.Common.{sym, ◌∙◌}
use Rattle.pcg.specs.Pcg32Promises.{Pcg32FromPartsPromise, Pcg32FromSeedPromise, Pcg32FromSeedStreamPromise}
use Rattle.pcg.specs.Pcg32Promises.{Pcg32FromU64SeedPromise, Pcg32NextU32Promise, Pcg32NextU64Promise}
use Rattle.source.specs.declared.Drawn.{Drawn}
use Rattle.pcg.specs.declared.pcg32.Pcg32.{Pcg32}

pub one_pcg32_from_parts : (state inc : ℕ) {a b : Pcg32} → Pcg32FromPartsPromise state inc a → Pcg32FromPartsPromise state inc b → a ≡ b
one_pcg32_from_parts state inc p q = p ∙ sym q

pub one_pcg32_from_seed_stream : (seed stream : ℕ) {a b : Pcg32}
    → Pcg32FromSeedStreamPromise seed stream a → Pcg32FromSeedStreamPromise seed stream b → a ≡ b
one_pcg32_from_seed_stream seed stream p q = p ∙ sym q

pub one_pcg32_from_u64_seed : (seed : ℕ) {a b : Pcg32} → Pcg32FromU64SeedPromise seed a → Pcg32FromU64SeedPromise seed b → a ≡ b
one_pcg32_from_u64_seed seed p q = p ∙ sym q

pub one_pcg32_from_seed : (seed : List ℕ) {a b : Pcg32} → Pcg32FromSeedPromise seed a → Pcg32FromSeedPromise seed b → a ≡ b
one_pcg32_from_seed seed p q = p ∙ sym q

pub one_pcg32_next_u32 : (self : Pcg32) {a b : Drawn ℕ Pcg32} → Pcg32NextU32Promise self a → Pcg32NextU32Promise self b → a ≡ b
one_pcg32_next_u32 self p q = p ∙ sym q

pub one_pcg32_next_u64 : (self : Pcg32) {a b : Drawn ℕ Pcg32} → Pcg32NextU64Promise self a → Pcg32NextU64Promise self b → a ≡ b
one_pcg32_next_u64 self p q = p ∙ sym q
