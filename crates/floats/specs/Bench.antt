-- The bench examples on floats (document 01), computed of the definitions.
use Rattle.std.specs.Prelude.{false, List, [], ◌∷◌, pos, negsuc, Float}
use Rattle.std.specs.Float.{fin}
use Rattle.words.specs.Table.{Row}
use Rattle.floats.specs.Units.{float_of, double_of}

-- a row: the float that a word gives
abbrev pub float : Float → Float → Row
float gives says = record { Kind = Float; gives = gives; says = says }

-- the marked rows: 2 ^ -24 is 1 * 2 ^ -(23 + 1), and 2 ^ -53 is 1 * 2 ^ -(52 + 1)
abbrev pub float_bench : List Row
float_bench =
    float (float_of 0xFF) (fin false 0 (pos 0))
    ∷ float (float_of 0x100) (fin false 1 (negsuc 23))
    ∷ float (double_of 0x7FF) (fin false 0 (pos 0))
    ∷ float (double_of 0x800) (fin false 1 (negsuc 52))
    ∷ []
