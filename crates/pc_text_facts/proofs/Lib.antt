-- What the functions of this crate rest on.
mod Below
mod Groups
