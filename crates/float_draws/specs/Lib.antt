-- What the float draws hand back of a generator: a number of one word, and the generator after the words it took.
pub mod Units
pub mod Coins
pub mod Spreads
pub mod Promises
pub mod PromisesLaws
