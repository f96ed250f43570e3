pub mod Sample
pub mod Samples1
pub mod Samples2
pub mod Samples3
pub mod Samples4
