-- What the public contract rests on, in reading order.
pub mod Words
pub mod Headline
pub mod Run
pub mod Chain
-- What the functions inside promise each other.
pub mod Answers
-- What the implementation of `Answers` shows.
pub mod Refusal
