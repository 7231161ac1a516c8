pub mod Numbers
pub mod Rooms
pub mod Strings
pub mod Printed
pub mod Nodes
pub mod Faults
pub mod NodeFronts
