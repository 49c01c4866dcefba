-- What holds of the worked rows.
pub mod OneWay
pub mod Contexts
pub mod Quiet
pub mod Chain
pub mod Memories
pub mod Apart
pub mod Lines
pub mod Exact
pub mod Runs
