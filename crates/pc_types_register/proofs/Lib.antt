-- What the functions of this crate rest on.
mod PathLemmas
mod RegisterLemmas
