-- what definitions, adapters and side effects name
mod SameLemmas
-- what adapters need, in a graph and in a log
pub mod NeedsLemmas
