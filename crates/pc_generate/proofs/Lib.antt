-- What the payloads of a chain count as, and that nothing is wrong with them.
pub mod CountLemmas
pub mod FaultLemmas
-- The words that say how long a chain is.
pub mod WordLemmas
-- The reading of a chain.
pub mod LogLemmas
pub mod NestLemmas
pub mod ReadLemmas
pub mod ChainLemmas
