pub mod Answering
pub mod AnswerInCode
