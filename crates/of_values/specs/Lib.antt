pub mod Numbers
pub mod Filled
pub mod Ipv6
pub mod Masks
pub mod Values
pub mod Each
pub mod Entries
pub mod Origins
