-- What each public call promises of its answer: the contracts of src/, by name.
use Rattle.std.specs.Prelude.{◌≡◌, ℕ, ℤ}
use Rattle.signed.specs.Signed.{gap, signed_of, wrapped_sum}

-- `signed_u32`: the word of 32 bits read as signed
abbrev pub SignedU32Promise : ℕ → ℤ → Type 0
SignedU32Promise w r = r ≡ signed_of 32 w

-- `signed_u64`: the word of 64 bits read as signed
abbrev pub SignedU64Promise : ℕ → ℤ → Type 0
SignedU64Promise w r = r ≡ signed_of 64 w

-- `wrapping_add_signed`: x + w modulo 2 ^ 32, read back as signed
abbrev pub WrappingAddSignedPromise : ℤ → ℕ → ℤ → Type 0
WrappingAddSignedPromise x w r = r ≡ wrapped_sum 32 x w

-- `span_of`: how far max is above min; 0 where it is below
abbrev pub SpanOfPromise : ℤ → ℤ → ℕ → Type 0
SpanOfPromise min max r = r ≡ gap min max
