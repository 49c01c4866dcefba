-- Laws of the words of `specs/`, for the layers above too.
pub mod Defaults
pub mod Elements
pub mod Growing
pub mod LookupLemmas
pub mod MapAll
pub mod Naming
-- What the functions of this crate rest on.
mod Distinct
mod Entries
mod FirstValues
mod Numbers
mod Pool
