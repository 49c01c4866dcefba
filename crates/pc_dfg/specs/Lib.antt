-- What the public contracts rest on, in reading order.
-- the values of an interned list with their numbers
pub mod Numbered
-- a graph, and what it means
pub mod Mapped
pub mod Empty
pub mod Pushed
pub mod Numbers
pub mod Lists
pub mod Means
pub mod Nodes
pub mod Effects
pub mod Grows
pub mod Names
pub mod Held
pub mod Ordered
-- `==` is equality of values.
pub mod Exact
pub mod ExactOptions
-- what values leave out
pub mod Told
-- what is known of core modules
pub mod Instantiations
