-- Each promise leaves one answer: two that both meet it are equal.
use Rattle.std.specs.Prelude.{◌≡◌, ℕ, List}
use Rattle.std.proofs.Common.{sym, ◌∙◌}
use Rattle.wrapping.specs.declared.wide.Wide.{Wide}
use Rattle.pcg.specs.Pcg64Promises.{Pcg64FromPartsPromise, Pcg64FromSeedPromise, Pcg64FromSeedStreamPromise}
use Rattle.pcg.specs.Pcg64Promises.{Pcg64FromU128SeedPromise, Pcg64NextU32Promise, Pcg64NextU64Promise}
use Rattle.source.specs.declared.Drawn.{Drawn}
use Rattle.pcg.specs.declared.pcg64.Pcg64.{Pcg64}

pub one_pcg64_from_parts : (state inc : Wide) {a b : Pcg64} → Pcg64FromPartsPromise state inc a → Pcg64FromPartsPromise state inc b → a ≡ b
one_pcg64_from_parts state inc p q = p ∙ sym q

pub one_pcg64_from_seed_stream : (seed stream : Wide) {a b : Pcg64}
    → Pcg64FromSeedStreamPromise seed stream a → Pcg64FromSeedStreamPromise seed stream b → a ≡ b
one_pcg64_from_seed_stream seed stream p q = p ∙ sym q

pub one_pcg64_from_u128_seed : (seed : Wide) {a b : Pcg64} → Pcg64FromU128SeedPromise seed a → Pcg64FromU128SeedPromise seed b → a ≡ b
one_pcg64_from_u128_seed seed p q = p ∙ sym q

pub one_pcg64_from_seed : (seed : List ℕ) {a b : Pcg64} → Pcg64FromSeedPromise seed a → Pcg64FromSeedPromise seed b → a ≡ b
one_pcg64_from_seed seed p q = p ∙ sym q

pub one_pcg64_next_u64 : (self : Pcg64) {a b : Drawn ℕ Pcg64} → Pcg64NextU64Promise self a → Pcg64NextU64Promise self b → a ≡ b
one_pcg64_next_u64 self p q = p ∙ sym q

pub one_pcg64_next_u32 : (self : Pcg64) {a b : Drawn ℕ Pcg64} → Pcg64NextU32Promise self a → Pcg64NextU32Promise self b → a ≡ b
one_pcg64_next_u32 self p q = p ∙ sym q
