-- What the public contracts rest on, in reading order.
pub mod Structure
pub mod Interface
pub mod ItemFaults
pub mod StaticFault
pub mod Program
pub mod Mark
-- What the functions inside rest on.
pub mod Names
