pub mod Folder
pub mod Terminal
