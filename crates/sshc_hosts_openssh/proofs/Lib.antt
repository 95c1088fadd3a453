pub mod PatternLemmas
pub mod WordLemmas
pub mod ListLemmas
pub mod ReadingLemmas
pub mod AcceptanceLemmas
pub mod LearnableLemmas
