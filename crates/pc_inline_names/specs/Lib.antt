-- What the public contracts rest on, in reading order.
pub mod Both
pub mod Numbers
pub mod Named
-- What the functions inside promise each other.
pub mod Lists
pub mod Tables
