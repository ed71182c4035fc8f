-- A generator made ready draws the word that it drew before; and below position 624 every word is ready.
use Rattle.std.specs.Prelude.{◌≡◌, refl, Bool, true, List, ℕ, ◌+◌, ◌<◌, ◌≤◌, get_or}
use Rattle.std.proofs.Common.{sym, ◌∙◌, ap, lt_of_not-le, arith, lt-ltb, le-ltb, ltb-true}
use Rattle.std.proofs.Math.Decide.{dec_le}
use Rattle.mersenne_twister.specs.declared.MersenneTwister as twister_type
use Rattle.source.specs.declared.Drawn.{Drawn}
use Rattle.mersenne_twister.specs.DrawLaws.{in_low, in_high}
use Rattle.mersenne_twister.specs.Sequence.{temper}
use Rattle.mersenne_twister.specs.Table.{held, drawn, twisted}
use Rattle.random.specs.declared.backend.Backend.{Backend}
use Rattle.random.specs.declared.backend.Backend.TheVariants.{Xoshiro256PlusPlus, MersenneTwister, Pcg32, Pcg64}
use Rattle.random.specs.declared.backend.Random.{Random}
use Rattle.random.specs.Generator.{gen, step, word_of, rand_of}
use Rattle.random.specs.declared.engine.Engine.{Engine}
use Rattle.random.specs.Lent.{joined_with}
use Rattle.random.specs.Ready.{ready_by, is_ready, surely_ready, made_ready, drawn_ready}

-- ---- which words are ready

pub ready_below : (b : Backend) (t : twister_type.MersenneTwister) → t.mti < 624 → ready_by b t ≡ true
ready_below (Xoshiro256PlusPlus x) t h = refl
ready_below MersenneTwister t h = lt-ltb t.mti 624 h
ready_below (Pcg32 p) t h = refl
ready_below (Pcg64 p) t h = refl

-- a ready word is the next word, and a ready generator stays as it is
pub drawn_ready_lem : (g : Random) → is_ready g ≡ true → drawn_ready g ≡ rand_of g
unfolding drawn_ready
drawn_ready_lem g h = rw h

pub made_already : (g : Random) → is_ready g ≡ true → made_ready g ≡ g
unfolding made_ready
made_already g h = rw h

pub made_below : (g : Random) → g.twister.mti < 624 → made_ready g ≡ g
made_below g h = made_already g (ready_below g.backend g.twister h)

-- and off the table it stays whatever the position
pub made_off_table : (b : Backend) (t : twister_type.MersenneTwister) → (b ≡ MersenneTwister → ⊥) → made_ready (gen b t) ≡ gen b t
unfolding made_ready
made_off_table (Xoshiro256PlusPlus x) t other = refl
made_off_table MersenneTwister t other = absurd (other refl)
made_off_table (Pcg32 p) t other = refl
made_off_table (Pcg64 p) t other = refl

-- where it is surely ready, over a lent table
pub drawn_surely : {b : Bool} (e : Engine) (m : List ℕ) → b ≡ surely_ready e → b ≡ true
    → drawn_ready (joined_with e m) ≡ rand_of (joined_with e m)
drawn_surely e m p t =
    let g = joined_with e m in
    drawn_ready_lem g (ready_below g.backend g.twister (ltb-true e.mti 624 (sym p ∙ t)))

ready_stays : (g : Random) → is_ready g ≡ true → drawn_ready (made_ready g) ≡ rand_of g
ready_stays g h = ap drawn_ready (made_already g h) ∙ drawn_ready_lem g h

-- ---- the twister's words off its table: below its end, and at it

-- the twister's draw, as the facade's
abbrev as_word : Drawn ℕ twister_type.MersenneTwister → Drawn ℕ Random
as_word d = record { word = d.word; next = gen MersenneTwister d.next }

pub twister_ready : (t : List ℕ) (p w : ℕ) → p < 624 → w ≡ temper (get_or t p 0)
    → record { word = w; next = gen MersenneTwister (held t (p + 1)) } ≡ drawn_ready (gen MersenneTwister (held t p))
unfolding rand_of word_of step
twister_ready t p w h e =
    rw e (ap as_word (sym (in_low t p h)) ∙ sym (drawn_ready_lem (gen MersenneTwister (held t p)) (lt-ltb p 624 h)))

pub twister_unready : (t : List ℕ) (p : ℕ) → 624 ≤ p
    → record { word = 0; next = gen MersenneTwister (held t p) } ≡ drawn_ready (gen MersenneTwister (held t p))
unfolding drawn_ready
twister_unready t p h = rw (le-ltb p 624 h)

pub twister_made : (t m : List ℕ) (p q : ℕ) → 624 ≤ p → held m q ≡ twisted (held t p)
    → gen MersenneTwister (held m q) ≡ made_ready (gen MersenneTwister (held t p))
unfolding made_ready
twister_made t m p q h e = rw (le-ltb p 624 h) (ap (gen MersenneTwister) e)

-- ---- a generator made ready is ready for the word that comes next

-- the twister, its table renewed, draws what it drew before
renewed_draws : (t : twister_type.MersenneTwister) → 624 ≤ t.mti → drawn (twisted t) ≡ drawn t
renewed_draws t h = in_low (twisted t).mt 0 (omega arith) ∙ sym (in_high t.mt t.mti h)

made_twister : (t : twister_type.MersenneTwister) → drawn_ready (made_ready (gen MersenneTwister t)) ≡ rand_of (gen MersenneTwister t)
unfolding made_ready drawn_ready rand_of word_of step
made_twister t =
    elim (dec_le 624 t.mti) [
      | yes h ↦ rw (le-ltb t.mti 624 h) (ap as_word (renewed_draws t h))
      | no h ↦ ready_stays (gen MersenneTwister t) (lt-ltb t.mti 624 (lt_of_not-le h))
    ]

made_by : (b : Backend) (t : twister_type.MersenneTwister) → drawn_ready (made_ready (gen b t)) ≡ rand_of (gen b t)
unfolding made_ready drawn_ready
made_by (Xoshiro256PlusPlus x) t = refl
made_by MersenneTwister t = made_twister t
made_by (Pcg32 p) t = refl
made_by (Pcg64 p) t = refl

pub made_ready_lem : (g : Random) → drawn_ready (made_ready g) ≡ rand_of g
made_ready_lem g = made_by g.backend g.twister
