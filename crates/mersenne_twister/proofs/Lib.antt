-- What a draw comes to where the table was twisted.
pub mod DrawFacts
