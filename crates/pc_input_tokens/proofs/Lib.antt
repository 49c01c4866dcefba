-- Lemmas that the answers cite, and for those who take lists and objects off a reader.
pub mod Trees
pub mod Digits
pub mod Keys
pub mod Turns
pub mod Items
pub mod Nested
pub mod Whole
pub mod Starts
