-- what an answer says of an input and of bytes
pub mod AnswerLemmas
-- that a generated chain has a plan
pub mod ChainLemmas
-- how a run has ended
pub mod ChainEndLemmas
