mod Told
mod Linked
mod Blocks
