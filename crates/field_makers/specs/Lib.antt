pub mod Made
pub mod Told
pub mod Laws
