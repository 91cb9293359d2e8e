pub mod Contents
pub mod FlowLines
pub mod NamedPorts
pub mod Playing
pub mod FileTables
pub mod FirstEvents
pub mod Switches
