-- `vrd_uint_in` meets its contract: by the library, and by the draw with min added.
use Rattle.vrd_ffi.specs.DrawLaws.{uint_drawn_by}
use Rattle.vrd_ffi.proofs.uint_calls.vrd_uint_in.Goals as goal

pub returns-then-max-min : goal.returns-then-max-min
returns-then-max-min c = rw c.number_apart.ensures c.uint_by_library.ensures

pub returns-then-last : goal.returns-then-last
returns-then-last c = rw c.number_apart-then-last.ensures c.uint_by_library-then-last.ensures

pub returns : goal.returns
returns c =
    let order = c.if-max-min.false in
    rw c.number_of.ensures (uint_drawn_by _ _ _ _ _ order c.drawn_from.ensures.draw)
