-- what an answer says
pub mod AnswerLemmas
-- how a run has ended
pub mod EndLemmas
