-- `rehearse` meets its contract, kind by kind: the twister runs on a copy, and the other kinds know no table.
use Rattle.std.proofs.Common.{refl}
use Rattle.ahead.specs.AheadLaws.{xoshiro_holds, pcg32_holds, pcg64_holds}
use Rattle.rehearsal.proofs.rehearsing.rehearse.Goals as goal

pub returns-in-Xoshiro256PlusPlus : goal.returns-in-Xoshiro256PlusPlus
returns-in-Xoshiro256PlusPlus c =
    record { told = rw c.in-Xoshiro256PlusPlus.is (c.source_run.ensures _ (xoshiro_holds _)); table = refl }

pub returns-in-MersenneTwister : goal.returns-in-MersenneTwister
returns-in-MersenneTwister c =
    record { told = rw c.in-MersenneTwister.is c.twister_run.ensures; table = refl }

pub returns-in-Pcg32 : goal.returns-in-Pcg32
returns-in-Pcg32 c =
    record { told = rw c.in-Pcg32.is (c.source_run-in-Pcg32.ensures _ (pcg32_holds _)); table = refl }

pub returns-in-Pcg64 : goal.returns-in-Pcg64
returns-in-Pcg64 c =
    record { told = rw c.in-Pcg64.is (c.source_run-in-Pcg64.ensures _ (pcg64_holds _)); table = refl }
