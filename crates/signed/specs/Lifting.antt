-- A word added to the word of a signed number x of 32 bits: modulo 2 ^ 32 that is the word of the sum.
use Rattle.std.specs.Prelude.{◌≡◌, refl, Bool, true, false, ℕ, suc, ◌+◌, ◌-◌, ◌%◌, ◌^◌, ltb, ℤ, pos, negsuc, ◌+ℤ◌}
use Rattle.std.proofs.Common.{arith, ltb-true, ltb-false, SFits, of_z}
use Rattle.std.proofs.Math.IntN.{sub_ℕ}
use Rattle.std.specs.Int.{w32}
use Rattle.signed.specs.Signed.{word_of}

pub word_sum : {x : ℤ} (n : ℕ) → SFits w32 x → (of_z w32 x + n) % 2 ^ 32 ≡ word_of 32 (x +ℤ pos n)
word_sum {x = pos m} n f = refl
word_sum {x = negsuc m} n f = go (ltb n (suc m)) refl
  where
    go : (below : Bool) → ltb n (suc m) ≡ below → (2 ^ 32 - suc m + n) % 2 ^ 32 ≡ word_of 32 (sub_ℕ n (suc m))
    go true e = let a = ltb-true n (suc m) e in let b = f.sfits in rw e (omega arith)
    go false e = let a = ltb-false n (suc m) e in let b = f.sfits in rw e (omega arith)
