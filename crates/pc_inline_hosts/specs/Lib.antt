-- What instances of the host have, by the trees of their types.
pub mod HostMembers
pub mod HostStands
