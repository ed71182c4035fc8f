-- The kinds that leave the twister's table as it came, at every word.
use Rattle.std.specs.Prelude.{◌≡◌, refl, Bool, true, false, List, ℕ, zero, suc}
use Rattle.std.proofs.Common.{◌∙◌, ap, true≢false}
use Rattle.mersenne_twister.specs.declared.MersenneTwister as twister_type
use Rattle.random.specs.declared.backend.Backend.{Backend}
use Rattle.random.specs.declared.backend.Backend.TheVariants.{Xoshiro256PlusPlus, MersenneTwister, Pcg32, Pcg64}
use Rattle.random.specs.declared.backend.Random.{Random}
use Rattle.random.specs.Generator.{step_by, step, later}
use Rattle.random.specs.Lent.{table_in, joined_with}
use Rattle.random.specs.declared.engine.Engine.{Engine}

-- whether a kind draws from the table
abbrev pub on_table : Backend → Bool
on_table (Xoshiro256PlusPlus x) = false
on_table MersenneTwister = true
on_table (Pcg32 p) = false
on_table (Pcg64 p) = false

-- the kinds that don't draw from the table leave it at every word
kept_by : (b : Backend) (t : twister_type.MersenneTwister) → on_table b ≡ false
    → (on_table (step_by b t).backend ≡ false) × ((step_by b t).twister ≡ t)
kept_by (Xoshiro256PlusPlus x) t h = (refl, refl)
kept_by MersenneTwister t h = absurd (true≢false h)
kept_by (Pcg32 p) t h = (refl, refl)
kept_by (Pcg64 p) t h = (refl, refl)

kept_after : (n : ℕ) (g : Random) → on_table g.backend ≡ false
    → (on_table (later n g).backend ≡ false) × ((later n g).twister ≡ g.twister)
unfolding later step
kept_after zero g h = (h, refl)
kept_after (suc n) g h =
    let (still, same) = kept_after n g h in
    let (on, one) = kept_by (later n g).backend (later n g).twister still in
    (on, one ∙ same)

pub others_keep : {h : Random} (n : ℕ) (e : Engine) (m : List ℕ) → on_table e.backend ≡ false → h ≡ later n (joined_with e m)
    → table_in h ≡ m
others_keep n e m h q = ap table_in q ∙ ap (λ (t : twister_type.MersenneTwister). t.mt) (kept_after n (joined_with e m) h).1
