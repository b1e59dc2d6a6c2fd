mod Joined
mod Steps
mod Known
mod Placed
mod Outlining
mod Named
