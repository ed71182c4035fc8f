-- `vrd_char_in` meets its contract: the draw below 26, with 97 added.
use Rattle.vrd_ffi.specs.DrawLaws.{char_drawn}
use Rattle.vrd_ffi.proofs.draw_calls.vrd_char_in.Goals as goal

pub returns : goal.returns
returns c = rw c.number_of.ensures (char_drawn _ _ _ c.drawn_from.ensures.draw)
