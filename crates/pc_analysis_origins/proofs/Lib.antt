-- What is the same under other numbers is so both ways.
mod FlipLemmas
-- Origins and homes under other numbers.
mod CarriedLemmas
-- Partitions under other numbers.
pub mod RenumberedLemmas
