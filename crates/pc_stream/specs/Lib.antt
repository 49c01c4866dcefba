-- what the public contracts rest on
pub mod Stream
pub mod Memory
-- what the functions inside promise each other
pub mod Piece
