pub mod Progress
pub mod Serving
pub mod Words
pub mod CommandLine
pub mod Playing
pub mod Runs
pub mod Obeying
mod PlayExamples
