-- `of_kind` meets its contract: each arm is the law of its kind.
use Rattle.std.proofs.Common.{ap, arith}
use Rattle.random.specs.Kinds.{number_of}
use Rattle.making.specs.MakeLaws.{kind_xoshiro, kind_twister, kind_pcg32, kind_pcg64}
use Rattle.making.proofs.bytes.of_kind.Goals as goal

pub returns-in_ok-try_into-in-Xoshiro256PlusPlus : goal.returns-in_ok-try_into-in-Xoshiro256PlusPlus
returns-in_ok-try_into-in-Xoshiro256PlusPlus c =
    let whole = c.in_ok-try_into-in-Xoshiro256PlusPlus.ensures.1 in
    let is = ap number_of c.in-Xoshiro256PlusPlus.is in
    (rw is whole.long, rw (c.from_xoshiro.ensures, c.from_seed.ensures, whole.same) (kind_xoshiro _ _ is))

pub returns-in_ok-try_into-in-MersenneTwister : goal.returns-in_ok-try_into-in-MersenneTwister
returns-in_ok-try_into-in-MersenneTwister c =
    let whole = c.in_ok-try_into-in-MersenneTwister.ensures.1 in
    let is = ap number_of c.in-MersenneTwister.is in
    (rw is whole.long, rw (c.from_mersenne_twister.ensures, c.from_seed-in-MersenneTwister.ensures, whole.same) (kind_twister _ _ is))

pub returns-in_ok-try_into-in-Pcg32 : goal.returns-in_ok-try_into-in-Pcg32
returns-in_ok-try_into-in-Pcg32 c =
    let whole = c.in_ok-try_into-in-Pcg32.ensures.1 in
    let is = ap number_of c.in-Pcg32.is in
    (rw is whole.long, rw (c.from_pcg32.ensures, c.from_seed-in-Pcg32.ensures, whole.same) (kind_pcg32 _ _ is))

pub returns-in_ok-try_into-in-Pcg64 : goal.returns-in_ok-try_into-in-Pcg64
returns-in_ok-try_into-in-Pcg64 c =
    let whole = c.in_ok-try_into-in-Pcg64.ensures.1 in
    let is = ap number_of c.in-Pcg64.is in
    let others =
    kind_pcg64 (number_of c.args.kind) c.args.seed.now (λ x. omega (arith, is, x)) (λ t. omega (arith, is, t))
    (λ p. omega (arith, is, p)) in
    (rw is whole.long, rw (c.from_pcg64.ensures, c.from_seed-in-Pcg64.ensures, whole.same) others)
