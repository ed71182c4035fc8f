-- Words in a row of any generator: A is its state, `step` the state after one, and `word` what a state gives.
use Rattle.std.specs.Prelude.{◌≡◌, ℕ, zero, suc}
use Rattle.std.specs.Int.Bits.{bit_xor}

-- the state after n steps
unfoldable pub after : {A : Type 0} (step : A → A) → ℕ → A → A
after step zero a = a
after step (suc n) a = step (after step n a)

-- the XOR of the first n words
unfoldable pub xor_of : {A : Type 0} (step : A → A) (word : A → ℕ) → ℕ → A → ℕ
xor_of step word zero a = 0
xor_of step word (suc n) a = bit_xor (xor_of step word n a) (word (after step n a))

-- what a loop over the words has after n of them: the state it has come to, and the XOR so far
pub record Came {A : Type 0} (step : A → A) (word : A → ℕ) (a : A) (n : ℕ) (b : A) (sum : ℕ) : Type 0 where
  pub state : b ≡ after step n a
  pub xor : sum ≡ xor_of step word n a
