pub mod PortSizes
pub mod Within
