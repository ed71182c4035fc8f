-- What follows of seeding: two seed numbers, and the byte seeds that fold to them, give one generator.
use Rattle.std.specs.Prelude.{◌≡◌, ℕ, List, refl}
use Rattle.xoshiro.specs.Seed.{seeded, seeded_bytes, xor_of_words}

-- seed 0 and 0xBAD1DEAA5BD1CAFE give one generator
pub zero_and_its_stand_in : seeded 0 ≡ seeded 0xBAD1_DEAA_5BD1_CAFE
zero_and_its_stand_in = refl

-- so do all byte seeds that fold to 0
pub folds_to_zero : (s : List ℕ) → xor_of_words s ≡ 0 → seeded_bytes s ≡ seeded 0xBAD1_DEAA_5BD1_CAFE
folds_to_zero s e = rw e
