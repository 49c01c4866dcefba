-- Laws of the words of `specs/`, for the layers above too.
pub mod KindLemmas
pub mod NameLemmas
-- What the functions of this crate rest on.
mod IntrinsicLemmas
mod RecordLemmas
mod Walking
