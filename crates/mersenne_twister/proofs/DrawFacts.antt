-- What a draw comes to where the table was twisted: it is of the twisted table, at position 0.
use Rattle.std.proofs.Common.{◌≡◌, ◌≤◌, ℕ, List, sym, ap, ◌∙◌, ap₂}
use Rattle.mersenne_twister.specs.declared.MersenneTwister.{MersenneTwister}
use Rattle.mersenne_twister.specs.Promises.{TwistInPromise}
use Rattle.mersenne_twister.specs.Table.{renewed, drawn_at, drawn_in}
use Rattle.mersenne_twister.specs.DrawLaws.{in_high}

pub draw_twisted : (t : List ℕ) (p : ℕ) (m : List ℕ) (r : ℕ) → TwistInPromise t r m → 624 ≤ p → drawn_in t p ≡ drawn_at m r
draw_twisted t p m r done high =
    let start : r ≡ 0 = ap (λ (g : MersenneTwister). g.mti) done in
    let renews : m ≡ renewed 624 t = ap (λ (g : MersenneTwister). g.mt) done in
    in_high t p high ∙ sym (ap₂ drawn_at renews start)
