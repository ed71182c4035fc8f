-- The order's test of a word in plain numbers, the first good word among the next B, and that `first_good` finds exactly that one.
use Rattle.std.specs.Prelude.{◌≡◌, Bool, true, false, ℕ, zero, suc, ◌*◌, ◌%◌, ◌^◌, ◌<◌}
use Rattle.std.proofs.Common.{arith, mod-lt, lit<, leb-true, leb-false, le-leb}
use Rattle.std.proofs.lemmas.Bool.{lt-leb}
use Rattle.words.specs.Draw.{Words, good, Found, at, nowhere, first_good}
use Rattle.words.specs.FirstPlace.{Searched, hit, miss, searched, searched_only}
use Rattle.words.specs.GoodWord.{Passes, Fails, FirstGood, NoneGood, Looked, some_good, none_good}

-- `good` is that test.
module _ (r w : ℕ) where
  pub good_passes : good r w ≡ true → Passes r w
  good_passes = leb-true (2 ^ 32 % r) ((w * r) % 2 ^ 32)

  pub passes_good : Passes r w → good r w ≡ true
  passes_good = le-leb (2 ^ 32 % r) ((w * r) % 2 ^ 32)

  pub bad_fails : good r w ≡ false → Fails r w
  bad_fails = leb-false (2 ^ 32 % r) ((w * r) % 2 ^ 32)

  pub fails_bad : Fails r w → good r w ≡ false
  fails_bad = lt-leb (2 ^ 32 % r) ((w * r) % 2 ^ 32)

-- No word passes for 0.
pub fails_for_zero : (w : ℕ) → Fails 0 w
fails_for_zero w = mod-lt (w * 0) (lit< tt)

pub passes_positive : (r w : ℕ) → Passes r w → 0 < r
passes_positive zero w p = absurd (omega (arith, fails_for_zero w))
passes_positive (suc n) w p = omega arith

module _ (s : Words) (r budget : ℕ) where
  test : ℕ → Bool
  test k = good r (s k)

  pub look : Looked s r budget
  unfolding test
  look = go (searched test budget 0)
    where
      go : {f : Found} → Searched test budget 0 f → Looked s r budget
      go (hit k f) =
          some_good k
          (record {
            among = let u = f.before_end in omega arith;
            passes = good_passes r (s k) f.passes;
            none_before = λ j h. bad_fails r (s j) (f.missed j (omega arith) h);
          })
      go (miss f) = none_good (λ j h. bad_fails r (s j) (f j (omega arith) (omega arith)))

  -- `first_good` tells which.
  pub first_found : {k : ℕ} → FirstGood s r budget k → first_good s r budget ≡ at k
  unfolding test first_good
  first_found {k} f =
      searched_only test budget 0
      (hit k
      (record {
        from = omega arith;
        before_end = let u = f.among in omega arith;
        passes = passes_good r (s k) f.passes;
        missed = λ j a h. fails_bad r (s j) (f.none_before j h);
      }))

  pub none_found : NoneGood s r budget → first_good s r budget ≡ nowhere
  unfolding test first_good
  none_found f = searched_only test budget 0 (miss (λ j a h. fails_bad r (s j) (f j (omega arith))))
