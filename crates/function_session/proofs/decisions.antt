pub mod DraftAnswers
