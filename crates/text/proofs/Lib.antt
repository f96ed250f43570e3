pub mod Front
pub mod Reading
pub mod Laid
pub mod Printing
pub mod Answer
pub mod Splitting
