pub mod Answers
pub mod Caller
