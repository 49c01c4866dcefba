-- Laws of the words of `specs/`, for the layers above too.
pub mod NewlyLemmas
-- What the functions of this crate rest on.
mod FreshLemmas
mod KeptLemmas
mod ListLemmas
mod PathLemmas
mod StepLemmas
mod WalkLemmas
mod WorkLemmas
