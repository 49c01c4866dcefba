-- What the contracts rest on, beside the words of `pc_spec_adapt`.
pub mod Modules
pub mod Entities
pub mod Exports
pub mod Members
pub mod Names
