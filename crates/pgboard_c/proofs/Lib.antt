pub mod Common
pub mod PostAnswers
