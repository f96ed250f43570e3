pub mod Front
pub mod Reading
pub mod Refused
pub mod Printing
pub mod Splitting
