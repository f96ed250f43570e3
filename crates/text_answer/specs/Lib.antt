pub mod Answering
pub mod Caller
