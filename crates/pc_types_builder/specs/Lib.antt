-- What the public contracts rest on.
pub use Rattle.pc_types_lists.specs.Types
pub use Rattle.pc_types_lists.specs.Held
pub use Rattle.pc_types_lists.specs.Known
pub use Rattle.pc_types_lists.specs.Primitive
pub use Rattle.pc_types_convert.specs.Adds
pub use Rattle.pc_types_convert.specs.Plain
pub mod Lending
pub mod LendingTypes
pub mod Trees
pub mod Depends
pub mod Converted
pub mod Asked
