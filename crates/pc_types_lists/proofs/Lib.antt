-- Laws of the words of `specs/`, for the layers above too.
pub mod Joining
pub mod Keeping
pub mod Growth
pub mod KeptTypes
pub mod AddedLemmas
pub mod HeldLemmas
pub mod ErrorLemmas
pub mod FewLemmas
pub mod ZipLemmas
-- What the functions of this crate rest on.
mod FactLemmas
mod KeyLemmas
mod KnownLemmas
mod PutLemmas
mod TreeFacts
