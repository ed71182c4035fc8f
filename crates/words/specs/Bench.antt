-- The rows of document 01's bench examples, those marked *, that draw below a bound from given words: one table, for the single table of
-- all of them.
use Rattle.std.specs.Prelude.{◌&&◌, List, [], ◌∷◌, ℕ, ◌+◌, ◌*◌, ◌%◌, ◌^◌, eqb}
use Rattle.words.specs.declared.outcome.Outcome.{Outcome}
use Rattle.words.specs.Draw.{listed, good, quotient, bounded_by}
use Rattle.words.specs.Count.{count}
use Rattle.words.specs.Table.{Row}

-- a number
abbrev pub number : ℕ → ℕ → Row
number n says = record { Kind = ℕ; gives = n; says = says }

-- what a call tells, all of it: refusal, value, words used
abbrev pub told : ℕ → ℕ → ℕ → Outcome
told refusal value used = record { refusal = refusal; value = value; used = used }

-- a draw below r from the given words, with a budget
abbrev pub below : ℕ → List ℕ → ℕ → Outcome → Row
below r words budget says = record { Kind = Outcome; gives = bounded_by (listed words) r budget; says = says }

-- how many words are good for r and draw q
abbrev pub share : ℕ → ℕ → ℕ → Row
share r q says = number (count (λ w. good r w && eqb (quotient r w) q) (2 ^ 32)) says

-- the rows
abbrev pub bench : List Row
bench =
    -- below 3: word 0 is rejected (2^32 mod 3 = 1); 1 gives 0; 0x55555555 gives 0; 0x55555556 gives 1; 0xFFFFFFFF gives 2
    number (2 ^ 32 % 3) 1
    ∷ below 3 (0 ∷ []) 1 (told 8 0 0)
    ∷ below 3 (0 ∷ 1 ∷ []) 2 (told 0 0 2)
    ∷ below 3 (1 ∷ []) 1 (told 0 0 1)
    ∷ below 3 (0x5555_5555 ∷ []) 1 (told 0 0 1)
    ∷ below 3 (0x5555_5556 ∷ []) 1 (told 0 1 1)
    ∷ below 3 (0xffff_ffff ∷ []) 1 (told 0 2 1)
    -- below 6: 0x2AAAAAAB has product 2^32 + 2, remainder 2 < 4, rejected; each value has 715827882 words
    ∷ number (0x2aaa_aaab * 6) (2 ^ 32 + 2)
    ∷ number ((0x2aaa_aaab * 6) % 2 ^ 32) 2
    ∷ number (2 ^ 32 % 6) 4
    ∷ below 6 (0x2aaa_aaab ∷ []) 1 (told 8 0 0)
    ∷ share 6 0 715827882
    ∷ share 6 1 715827882
    ∷ share 6 2 715827882
    ∷ share 6 3 715827882
    ∷ share 6 4 715827882
    ∷ share 6 5 715827882
    -- below 1: word 0 gives 0; budget 0 refuses with 8
    ∷ below 1 (0 ∷ []) 1 (told 0 0 1)
    ∷ below 1 (0 ∷ []) 0 (told 8 0 0)
    -- below 0xFFFFFFFF: 0 rejected; 1 gives 0; 0xFFFFFFFF gives 4294967294
    ∷ below 0xffff_ffff (0 ∷ []) 1 (told 8 0 0)
    ∷ below 0xffff_ffff (1 ∷ []) 1 (told 0 0 1)
    ∷ below 0xffff_ffff (0xffff_ffff ∷ []) 1 (told 0 4294967294 1)
    -- below 0x80000000: word 0x80000000 gives 1073741824
    ∷ below 0x8000_0000 (0x8000_0000 ∷ []) 1 (told 0 1073741824 1)
    ∷ []
