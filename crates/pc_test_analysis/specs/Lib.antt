-- What the functions of the tests promise each other.
pub mod Cores
