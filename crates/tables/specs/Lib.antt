pub mod LimitAnswers
pub mod Refusals
pub mod SectionAnswers
pub mod NodeAnswers
pub mod FormAnswers
pub mod Judging
pub mod NameAnswers
