pub mod Alike
pub mod SamePorts
pub mod SameGroups
pub mod SameTables
pub mod Agreeing
pub mod Emitting
pub mod IngressPorts
