-- Each promise leaves one answer: two that both meet it are equal. The other exports' promises are the library's, and so are their laws.
use Rattle.std.specs.Prelude.{List, ◌≡◌, ℕ}
use Rattle.std.proofs.Common.{sym, ◌∙◌}
use Rattle.mersenne_twister.specs.PromisesLaws.{step_apart}
use Rattle.source.specs.declared.Drawn.{Drawn}
use Rattle.mersenne_twister.specs.declared.MersenneTwister.{MersenneTwister}
use Rattle.mersenne_twister.specs.declared.table.Step.{Step}
use Rattle.pcg.specs.declared.pcg32.Pcg32.{Pcg32}
use Rattle.pcg.specs.declared.pcg64.Pcg64.{Pcg64}
use Rattle.xoshiro.specs.declared.Xoshiro256PlusPlus.{Xoshiro256PlusPlus}
use Rattle.bench_ffi.specs.Promises.{Pcg32WordsPromise, Pcg64WordsPromise, TwisterWordsInPromise}
use Rattle.bench_ffi.specs.Promises.{TwisterWordsPromise, XoshiroWordsPromise}

pub one_xoshiro_words : (g : Xoshiro256PlusPlus) (n : ℕ) {a b : Drawn ℕ Xoshiro256PlusPlus}
    → XoshiroWordsPromise g n a → XoshiroWordsPromise g n b → a ≡ b
one_xoshiro_words g n p q = p ∙ sym q

pub one_pcg32_words : (g : Pcg32) (n : ℕ) {a b : Drawn ℕ Pcg32} → Pcg32WordsPromise g n a → Pcg32WordsPromise g n b → a ≡ b
one_pcg32_words g n p q = p ∙ sym q

pub one_pcg64_words : (g : Pcg64) (n : ℕ) {a b : Drawn ℕ Pcg64} → Pcg64WordsPromise g n a → Pcg64WordsPromise g n b → a ≡ b
one_pcg64_words g n p q = p ∙ sym q

pub one_twister_words_in : (mt : List ℕ) (mti n : ℕ) {a b : Step ℕ} {mt₁ mt₂ : List ℕ}
    → TwisterWordsInPromise mt mti n a mt₁ → TwisterWordsInPromise mt mti n b mt₂ → (a ≡ b) × (mt₁ ≡ mt₂)
one_twister_words_in mt mti n p q = step_apart (p ∙ sym q)

pub one_twister_words : (g : MersenneTwister) (n : ℕ) {a b : Drawn ℕ MersenneTwister}
    → TwisterWordsPromise g n a → TwisterWordsPromise g n b → a ≡ b
one_twister_words g n p q = p ∙ sym q
