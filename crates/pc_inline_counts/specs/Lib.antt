-- How many nodes are reached of what is exported.
pub mod Counts
pub mod Follows
