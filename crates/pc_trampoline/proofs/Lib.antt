pub mod BuiltinLemmas
pub mod ListLemmas
pub mod ShapeLemmas
