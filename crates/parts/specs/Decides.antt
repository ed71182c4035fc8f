-- What it is for a test to decide a statement: it is true exactly where the statement holds.
use Rattle.std.specs.Prelude.{Bool, true, false, ◌≡◌, refl, ℕ}
use Rattle.std.proofs.Common.{sym, arith}

-- true exactly where P holds
abbrev pub Decides : Bool → Type 0 → Type 0
Decides b P = (b ≡ true → P) × (P → b ≡ true)

-- the two answers differ
pub false_not_true : false ≡ true → ⊥
false_not_true p = let z : ◌≡◌ {A = ℕ} 0 1 = cc in omega arith

-- true decides what holds, and false what does not
pub decides_yes : {P : Type 0} → P → Decides true P
decides_yes p = (λ e. p, λ q. refl)

pub decides_no : {P : Type 0} → (P → ⊥) → Decides false P
decides_no h = (λ e. absurd (false_not_true e), λ p. absurd (h p))

-- a test decides whatever holds exactly where its statement does
pub decides_by : {b : Bool} {P Q : Type 0} → (P → Q) → (Q → P) → Decides b P → Decides b Q
decides_by there back d = (λ e. there (d.0 e), λ q. d.1 (back q))

-- two tests that decide one statement give one answer
pub decides_once : (a b : Bool) (P : Type 0) → Decides a P → Decides b P → a ≡ b
decides_once true b P h k = sym (k.1 (h.0 refl))
decides_once false true P h k = h.1 (k.0 refl)
decides_once false false P h k = refl
