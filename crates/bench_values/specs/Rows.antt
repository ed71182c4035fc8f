-- Words in a row from a generator of any kind, XORed, and the generator after them. Draws in a row are those of the loop over a lent
-- table.
use Rattle.std.specs.Prelude.{ℕ}
use Rattle.random.specs.Generator.{later, words_of, xor_of}
use Rattle.random.specs.declared.backend.Random.{Random}
use Rattle.source.specs.declared.Drawn.{Drawn}
use Rattle.lent_state.specs.Answers.{Reply, gives}
use Rattle.bench_values.specs.declared.value_loops.Xored.{Xored}

-- n words XORed
abbrev pub words_row : ℕ → Random → Drawn ℕ Random
words_row n g = record { word = xor_of (words_of g) n; next = later n g }

-- ---- what the export hands out

-- the XOR of words, put together
abbrev pub xored : (value refusal : ℕ) → Xored
xored v n = record { value = v; refusal = n }

-- words XORed, handed out
abbrev pub xored_of : Drawn ℕ Random → Reply Xored
xored_of d = gives (xored d.word 0) d.next
