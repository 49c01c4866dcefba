-- What the functions of this crate rest on.
mod Arguments
mod Entries
mod Joining
