-- Equality of generators is an equivalence: said of what `same` promises.
use Rattle.std.specs.Prelude.{Bool, true, ◌≡◌, refl}
use Rattle.std.proofs.Common.{sym, ◌∙◌}
use Rattle.random.specs.declared.backend.Random.{Random}
use Rattle.parts.specs.Decides.{decides_once}
use Rattle.parts.specs.OwnParts.{own_parts}
use Rattle.parts.specs.Promises.{SamePromise}

-- a generator equals itself
pub same_self : (a : Random) {r : Bool} → SamePromise a a r → r ≡ true
same_self a p = p.1 refl

-- it is the same asked either way round
pub same_either_way : (a b : Random) {r r' : Bool} → SamePromise a b r → SamePromise b a r' → r ≡ r'
same_either_way a b {r} {r'} p q =
    decides_once r r' (own_parts a ≡ own_parts b) p (λ e. sym (q.0 e), λ e. q.1 (sym e))

-- and where a equals b and b equals c, a equals c
pub same_through : (a b c : Random) {r r' r'' : Bool} → SamePromise a b r → SamePromise b c r' → SamePromise a c r''
    → r ≡ true → r' ≡ true → r'' ≡ true
same_through a b c p q s h k = s.1 (p.0 h ∙ q.0 k)
