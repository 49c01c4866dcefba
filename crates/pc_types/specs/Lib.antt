-- What the public contracts rest on.
pub mod ByKind
pub mod Intrinsic
pub mod IntrinsicType
pub mod Names
pub mod Record
pub mod Table
pub mod TypeTree
-- What the functions inside promise each other.
pub mod Equal
pub mod EqualWords
