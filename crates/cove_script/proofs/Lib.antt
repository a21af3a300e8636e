pub mod ActionsReadBack
pub mod JoinedText
pub mod LoopOverLines
pub mod NumberWords
pub mod ScriptReadBack
