-- When a log says that an adapter was made.
pub mod MadeLemmas
