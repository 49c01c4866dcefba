-- What the public contracts say.
pub mod Registers
-- What the functions inside promise each other.
pub mod Learns
pub mod Walked
