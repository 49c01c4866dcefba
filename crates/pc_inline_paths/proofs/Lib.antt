-- Laws of the words of `specs/`, for the layers above too.
pub mod TakenLemmas
-- What the functions of this crate rest on.
mod ListLemmas
mod StepLemmas
mod InternLemmas
mod WrittenLemmas
