-- an adapter is told from its record
pub mod FoundLemmas
-- what is planned is short, and is named
pub mod ShortLemmas
mod FineLemmas
