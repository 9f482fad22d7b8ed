pub mod Made
pub mod NetNodes
pub mod PartNodes
pub mod Assembly
pub mod Bodies
pub mod Nodes
