-- What the functions of this crate rest on. Callers cite `CallerLemmas`.
pub mod TextLemmas
pub mod PlaceLemmas
pub mod TextKeyLemmas
pub mod LastValueLemmas
pub mod VersionLemmas
pub mod StandingLemmas
pub mod AnswerLemmas
pub mod CallerLemmas
