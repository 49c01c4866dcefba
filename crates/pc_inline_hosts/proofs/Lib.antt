-- What the functions of this crate rest on, and those of the crates above: the public ones are theirs too.
pub mod FieldLemmas
pub mod KindLemmas
pub mod HostLemmas
pub mod ValueLemmas
