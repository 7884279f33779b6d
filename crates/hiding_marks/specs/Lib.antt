pub mod Reacts
