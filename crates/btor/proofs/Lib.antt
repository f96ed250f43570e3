pub mod Sorts
pub mod Words
pub mod BitVectors
pub mod Agreement
pub mod Laws
pub mod LawsInCode
pub mod AgreementInCode
pub mod Cases
