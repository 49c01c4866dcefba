-- What the public contracts rest on, beside the words of `pc_spec_adapt`.
pub mod Asked
pub mod Imports
pub mod Places
pub mod Planned
pub mod Refused
