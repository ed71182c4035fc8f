-- Every answered value is below its bound, where the words have 32 bits: of one draw, and of draws below a list one for one.
use Rattle.std.specs.Prelude.{ℕ, ◌^◌, ◌<◌}
use Rattle.words.specs.Draw.{Words}

-- Every word has 32 bits.
abbrev pub WordSized : Words → Type 0
WordSized s = (k : ℕ) → s k < 2 ^ 32
