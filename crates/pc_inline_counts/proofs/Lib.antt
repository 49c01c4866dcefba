-- What the functions of this crate rest on, and what the counts say: the public ones are for the crates above.
pub mod FollowsLemmas
mod FoldLemmas
mod HostLemmas
pub mod CountLemmas
