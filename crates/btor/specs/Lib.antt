pub mod Sorts
pub mod Operators
pub mod Readings
pub mod Standard
pub mod Agreement
pub mod Laws
pub mod Cases
