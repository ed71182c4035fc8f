-- A signed number of 32 bits in 64 bits: the machine reads it back as it was.
use Rattle.std.specs.Prelude.{◌≡◌, ℤ}
use Rattle.std.proofs.Common.{◌∙◌, arith, SFits, of_z, to_z}
use Rattle.std.specs.Int.{w32, w64}
use Rattle.std.proofs.lemmas.Int.{to_z-of_z}

-- what the machine reads back of z where its 32 bits are widened to 64
abbrev pub wide : ℤ → ℤ
wide z = to_z w64 (of_z w64 (to_z w32 (of_z w32 z)))

module _ {x : ℤ} (f : SFits w32 x) where
  -- the cast to 64 bits loses nothing
  pub widen_fits : SFits w64 (to_z w32 (of_z w32 x))
  widen_fits = rw (to_z-of_z w32 x f) (record { sfits = let g = f.sfits in omega arith })

  -- and it is read back as it was
  pub widened : wide x ≡ x
  widened = to_z-of_z w64 _ widen_fits ∙ to_z-of_z w32 x f
