-- Facts that the answers cite.
pub mod WordLists
pub mod Parts
pub mod KeyLines
pub mod Answers
