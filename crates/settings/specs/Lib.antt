pub mod Nodes
pub mod Rules
pub mod Leaves
pub mod Buildings
