pub mod Closing
pub mod Ends
mod Examples
pub mod Landing
pub mod Leaving
pub mod Mending
pub mod Nodes
pub mod Placing
pub mod Relative
pub mod Rewriting
pub mod Rising
pub mod Searching
pub mod Shifting
pub mod Stopping
pub mod RbTree
pub mod Names
pub mod Walking
