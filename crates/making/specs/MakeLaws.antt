-- The generator of each kind; and when a making of bytes is refused: with 10 exactly where the kind is above 3, with 11 exactly where a
-- kind's seed has not its length, and then kind 0 with four zero words is handed out.
use Rattle.std.specs.Prelude.{List, ◌≡◌, ℕ, ◌≤◌, ◌<◌, eqb, length, Bool, true, false, cond}
use Rattle.std.proofs.Common.{sym, ◌∙◌, ap, arith}
use Rattle.std.proofs.Math.Decide.{dec_le}
use Rattle.std.proofs.Math.Nat.{lt_of_not-le}
use borrow.Author.Tests.{le-leb, lt-leb, eq-eqb, ne_eqb}
use Rattle.mersenne_twister.specs.Table as twister
use Rattle.pcg.specs.Pcg32 as pcg32
use Rattle.pcg.specs.Pcg64 as pcg64
use Rattle.xoshiro.specs.Seed as xoshiro_seed
use Rattle.random.specs.declared.backend.Random.{Random}
use Rattle.words.specs.Refusal as refusal
use Rattle.making.specs.Make.{Made}
use Rattle.making.specs.Make.{of_xoshiro, of_twister, of_pcg32, of_pcg64, seed_length_of, of_kind}
use Rattle.making.specs.Make.{refused_making, answered_making, made_bytes}

-- ---- the length of a kind's seed

pub short_seed : (kind : ℕ) → kind ≡ 2 → seed_length_of kind ≡ 16
short_seed kind e = rw e

pub long_seed : (kind : ℕ) → (kind ≡ 2 → ⊥) → seed_length_of kind ≡ 32
long_seed kind n = rw (ne_eqb kind 2 n)

module _ (kind : ℕ) (s : List ℕ) where
  -- ---- the generator of a kind

  pub kind_xoshiro : kind ≡ 0 → of_xoshiro (xoshiro_seed.seeded_bytes s) ≡ of_kind kind s
  unfolding of_kind
  kind_xoshiro e = rw e

  pub kind_twister : kind ≡ 1 → of_twister (twister.seeded (twister.folded s)) ≡ of_kind kind s
  unfolding of_kind
  kind_twister e = rw e

  pub kind_pcg32 : kind ≡ 2 → of_pcg32 (pcg32.seeded_bytes s) ≡ of_kind kind s
  unfolding of_kind
  kind_pcg32 e = rw e

  pub kind_pcg64 : (kind ≡ 0 → ⊥) → (kind ≡ 1 → ⊥) → (kind ≡ 2 → ⊥) → of_pcg64 (pcg64.seeded_bytes s) ≡ of_kind kind s
  unfolding of_kind
  kind_pcg64 x t p = rw (ne_eqb kind 0 x, ne_eqb kind 1 t, ne_eqb kind 2 p)

  -- ---- the three ways out

  pub made_unknown : 3 < kind → made_bytes kind s ≡ refused_making refusal.kind
  unfolding made_bytes
  made_unknown h = rw (lt-leb kind 3 h)

  pub made_other_length : kind ≤ 3 → (length s ≡ seed_length_of kind → ⊥) → made_bytes kind s ≡ refused_making refusal.seed_length
  unfolding made_bytes
  made_other_length h n = rw (le-leb kind 3 h, ne_eqb (length s) (seed_length_of kind) n)

  pub made_whole : kind ≤ 3 → length s ≡ seed_length_of kind → made_bytes kind s ≡ answered_making (of_kind kind s)
  unfolding made_bytes
  made_whole h e = rw (le-leb kind 3 h, eq-eqb (length s) (seed_length_of kind) e)

  -- ---- and each of them only then

  -- the refusal's number of a making that is known
  number : {m : Made} → made_bytes kind s ≡ m → (made_bytes kind s).refusal ≡ m.refusal
  number e = ap (λ (m : Made). m.refusal) e

  -- a known kind is not refused with 10
  known : (whole : Bool) (g : Random) → (cond whole (answered_making g) (refused_making refusal.seed_length)).refusal ≡ refusal.kind → ⊥
  known true g e = omega (arith, e)
  known false g e = omega (arith, e)

  -- 10: the kind is above 3
  pub refused_with_kind : (made_bytes kind s).refusal ≡ refusal.kind → 3 < kind
  unfolding made_bytes
  refused_with_kind e =
      elim (dec_le kind 3) [
        | no h ↦ lt_of_not-le h
        | yes h ↦ absurd (known (eqb (length s) (seed_length_of kind)) (of_kind kind s) (rw (le-leb kind 3 h) at e))
      ]

  -- 11: the kind is known, and the seed has not its length
  pub refused_with_length : (made_bytes kind s).refusal ≡ refusal.seed_length → (kind ≤ 3) × (length s ≡ seed_length_of kind → ⊥)
  refused_with_length e =
      elim (dec_le kind 3) [
        | no h ↦ let z = sym e ∙ number (made_unknown (lt_of_not-le h)) in absurd (omega (arith, z))
        | yes h ↦ (h, λ q. let z = sym e ∙ number (made_whole h q) in omega (arith, z))
      ]
