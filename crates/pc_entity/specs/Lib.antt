-- What the public contracts rest on.
pub mod Lists
pub mod PackedOption
pub mod SecondaryMap
-- What a text that carries a hash is hashed to.
pub mod HashedText
-- How a map from texts is seen and made from a list, and why `==` is equality of values.
pub mod FirstValues
pub mod Exact
