-- Lemmas that the answers cite.
pub mod Inputs
mod Taken
mod Agree
mod Payloads
