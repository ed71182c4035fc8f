-- `read_number` meets its contract: the invariant is `Reading`.
use Rattle.std.proofs.Common.{ℕ, ◌≡◌, ◌+◌, ◌^◌, ◌<◌, ◌∙◌, arith, subst, slice_index}
use Rattle.week.specs.Decimal.{with_digit}
use Rattle.week.specs.DecimalLaws.{Reading, reading_nothing, reading_start, reading_done, reading_other, reading_over, reading_on}
use Rattle.week.proofs.decimal.read_number.Goals as goal

pub returns-then-is_empty : goal.returns-then-is_empty
returns-then-is_empty c = reading_nothing _ c.if-is_empty.ensures

pub loop-byte-init : goal.loop-byte-init
loop-byte-init c = reading_start _ c.if-is_empty.ensures

pub returns-then-not-is_ascii_digit : goal.returns-then-not-is_ascii_digit
returns-then-not-is_ascii_digit c =
    reading_other c.loop-byte.invariant c.loop-byte-test.true c.if-not-is_ascii_digit.ensures.value

pub returns-in_err-checked_mul : goal.returns-in_err-checked_mul
returns-in_err-checked_mul c =
    c.from_residual.ensures
    ∙ reading_over
    c.loop-byte.invariant
    c.loop-byte-test.true
    c.if-not-is_ascii_digit.ensures.value
    (omega (arith, c.in_err-checked_mul.ensures))

pub returns-in_err-number : goal.returns-in_err-number
returns-in_err-number c =
    c.from_residual-in_err-number.ensures
    ∙ reading_over
    c.loop-byte.invariant
    c.loop-byte-test.true
    c.if-not-is_ascii_digit.ensures.value
    (omega (arith, c.in_err-number.ensures, c.in_ok-checked_mul.ensures, c.from-digit.ensures))

pub loop-byte-preserved : goal.loop-byte-preserved
loop-byte-preserved c =
    let P : ℕ → Type 0 = λ n. Reading c.args.text.now n (c.loop-byte.byte-index + 1) in
    let e : with_digit c.loop-byte.number (slice_index c.args.text.now c.loop-byte.byte-index) ≡ c.in_ok-number.number =
    omega (arith, c.in_ok-number.ensures, c.in_ok-checked_mul.ensures, c.from-digit.ensures) in
    let fits : with_digit c.loop-byte.number (slice_index c.args.text.now c.loop-byte.byte-index) < 2 ^ 64 =
    omega (arith, c.in_ok-number.ensures, c.in_ok-checked_mul.ensures, c.from-digit.ensures) in
    subst P e (reading_on c.loop-byte.invariant c.loop-byte-test.true c.if-not-is_ascii_digit.ensures.value fits)

pub returns : goal.returns
returns c = reading_done c.loop-byte.invariant c.loop-byte-test.false
