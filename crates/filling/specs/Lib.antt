-- Filling bytes: the definitions, the laws and the bench examples; then what its code cites.
pub mod Fill
pub mod FillLaws
pub mod FillBench
pub mod FillLoop
pub mod FillKinds
pub mod Poke
pub mod PokeLaws
pub mod Promises
pub mod PromisesLaws
