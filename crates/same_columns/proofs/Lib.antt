mod Adding
mod Printed
mod Naming
mod Joining
mod Ranking
mod Itself
mod Exchanging
mod Compared
