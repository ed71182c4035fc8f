-- The words of a state have 64 bits, as the code's have: a state that is seeded has such words, and a step or a jump keeps them.
use Rattle.std.specs.Prelude.{ℕ, zero, suc, ◌*◌, ◌%◌, ◌^◌, ◌<◌, Bool, true, false, ◌==◌, refl}
use Rattle.std.proofs.Common.{lt_of_le_of_lt, div-le_self, mod-lt, lit<, pow_pos}
use Rattle.std.proofs.lemmas.Nat.{xor_lt}
use Rattle.wrapping.specs.RotateLaws.{turn_lt}
use Rattle.xoshiro.specs.declared.Xoshiro256PlusPlus.{Xoshiro256PlusPlus}
use Rattle.xoshiro.specs.Generator.{stepped}
use Rattle.xoshiro.specs.Jump.{jump_bit, picked, turned, jumping, jumped}
use Rattle.xoshiro.specs.Seed.{seeded, four_words}
use Rattle.xoshiro.specs.SplitMix64.{xor_shift, mixed}

-- each of the four words has 64 bits
pub record Sized (x : Xoshiro256PlusPlus) : Type 0 where
  pub s0 : x.s0 < 2 ^ 64
  pub s1 : x.s1 < 2 ^ 64
  pub s2 : x.s2 < 2 ^ 64
  pub s3 : x.s3 < 2 ^ 64

-- a step keeps them
pub sized_stepped : (x : Xoshiro256PlusPlus) → Sized x → Sized (stepped x)
unfolding stepped
sized_stepped x h =
    let s2 = xor_lt 64 x.s2 x.s0 h.s2 h.s0 in
    let s3 = xor_lt 64 x.s3 x.s1 h.s3 h.s1 in
    record {
      s0 = xor_lt 64 x.s0 _ h.s0 s3;
      s1 = xor_lt 64 x.s1 _ h.s1 s2;
      s2 = xor_lt 64 _ _ s2 (mod-lt _ (lit< tt));
      s3 = turn_lt 64 _ 19 45 refl s3;
    }

-- ---- the jump: a sum of states

sized_picked : (isOne : Bool) (x y : Xoshiro256PlusPlus) → Sized x → Sized y → Sized (picked isOne x y)
sized_picked true x y h l = record {
  s0 = xor_lt 64 x.s0 y.s0 h.s0 l.s0;
  s1 = xor_lt 64 x.s1 y.s1 h.s1 l.s1;
  s2 = xor_lt 64 x.s2 y.s2 h.s2 l.s2;
  s3 = xor_lt 64 x.s3 y.s3 h.s3 l.s3;
}
sized_picked false x y h l = h

sized_jumping : (n : ℕ) (x : Xoshiro256PlusPlus) → Sized x → Sized (jumping n x).sum × Sized (jumping n x).at
unfolding jumping turned
sized_jumping zero x h = (record { s0 = lit< tt; s1 = lit< tt; s2 = lit< tt; s3 = lit< tt }, h)
sized_jumping (suc n) x h =
    let (sum, at) = sized_jumping n x h in
    (sized_picked (jump_bit n == 1) (jumping n x).sum (jumping n x).at sum at, sized_stepped (jumping n x).at at)

-- so does a jump
pub sized_jumped : (x : Xoshiro256PlusPlus) → Sized x → Sized (jumped x)
unfolding jumped
sized_jumped x h = (sized_jumping 256 x h).0

-- ---- seeding

mixed_lt : (z : ℕ) → mixed z < 2 ^ 64
unfolding mixed
mixed_lt z = shifted (xor_shift 27 (xor_shift 30 z * 0xBF58_476D_1CE4_E5B9 % 2 ^ 64) * 0x94D0_49BB_1331_11EB)
  where
    shifted : (n : ℕ) → xor_shift 31 (n % 2 ^ 64) < 2 ^ 64
    shifted n =
        let small = mod-lt n (pow_pos 64) in
        xor_lt 64 (n % 2 ^ 64) _ small (lt_of_le_of_lt (div-le_self (n % 2 ^ 64) (2 ^ 31)) small)

-- the state of a seed number, whatever number it is
pub sized_seeded : (seed : ℕ) → Sized (seeded seed)
unfolding four_words
sized_seeded seed = record { s0 = mixed_lt _; s1 = mixed_lt _; s2 = mixed_lt _; s3 = mixed_lt _ }
