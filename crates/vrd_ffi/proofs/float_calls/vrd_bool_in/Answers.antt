-- `vrd_bool_in` meets its contract: an unknown kind, a coin, and no chance.
use Rattle.std.specs.Prelude.{Bool, false, Result, Ok, Err, ◌≡◌, refl}
use Rattle.std.specs.Result.{result_unwrap_or}
use mathlib.Core.Path.{sym, ◌∙◌, ap}
use Rattle.words.specs.declared.refusal.Refusal.{Refusal}
use Rattle.floats.specs.Chances.{Coin, coin}
use Rattle.lent_state.specs.AnswersLaws.{unknown_kind}
use Rattle.vrd_ffi.specs.WordLaws.{coin_moved, coin_refused}
use Rattle.vrd_ffi.proofs.float_calls.vrd_bool_in.Goals as goal

-- the value of a coin, false where it is refused
coin_value : (r : Result Bool Refusal) → result_unwrap_or r false ≡ (coin r).value
coin_value (Ok b) = refl
coin_value (Err r) = refl

pub returns-then-state-gt3 : goal.returns-then-state-gt3
returns-then-state-gt3 c = unknown_kind _ _ _ _ c.if-state-gt3.true

pub returns-then-is_chance : goal.returns-then-is_chance
returns-then-is_chance c =
    let fair = sym c.is_chance.ensures ∙ c.if-is_chance.true in
    let value = c.unwrap_or.ensures ∙ coin_value c.chance.result ∙ ap (λ (k : Coin). k.value) c.chance.ensures in
    rw (value, c.steps_in-used.ensures) (coin_moved _ _ c.if-state-gt3.false _ fair c.move_u64-word.ensures)

pub returns : goal.returns
returns c = coin_refused _ _ c.if-state-gt3.false _ (sym c.is_chance.ensures ∙ c.if-is_chance.false)
