mod Repeats
mod Removed
mod Added
mod Counted
mod Sets
mod Deltas
