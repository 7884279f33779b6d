mod Ahead
mod Matching
