-- `made_ready` meets its contract: past position 624 the twister is renewed.
use Rattle.random.specs.ReadyLaws.{twister_made}
use Rattle.random.proofs.ready.made_ready.Goals as goal

pub returns-in-MersenneTwister : goal.returns-in-MersenneTwister
returns-in-MersenneTwister c =
    rw (c.in-MersenneTwister.is, c.engine_with.ensures) (twister_made _ _ _ _ c.if-e-lt-END.false c.twist_in-at.ensures)
