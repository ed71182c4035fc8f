-- When `choose` is refused, and where its answer lies; where the place or the start of an answered call lies, of every generator.
pub mod ChoosingOutcomes
pub mod Values
