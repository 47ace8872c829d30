-- The sheet on the page, rule by rule.
pub mod SheetWriting
pub mod SheetAnswers
