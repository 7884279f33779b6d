pub mod Table
pub mod Parse
pub mod Rows
pub mod TextRows
pub mod Examples
