-- A list with some bytes of a number written in, the lowest first, as filling stores them.
use Rattle.std.specs.Prelude.{List, [], ◌∷◌, ℕ, zero, suc, ◌+◌, ◌/◌, ◌%◌, set}

-- the low n bytes of w, from place i on
unfoldable pub poke : ℕ → ℕ → ℕ → List ℕ → List ℕ
poke zero i w l = l
poke (suc n) i w l = poke n (i + 1) (w / 256) (set l i (w % 256))

-- the low n bytes of w, as a list
unfoldable pub low_bytes : ℕ → ℕ → List ℕ
low_bytes zero w = []
low_bytes (suc n) w = w % 256 ∷ low_bytes n (w / 256)
