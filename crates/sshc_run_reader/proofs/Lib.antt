-- Lemmas that the proofs of the contracts use.
pub mod Fronts
pub mod Lists
pub mod EventGrammar
pub mod KindGrammar
pub mod MsgGrammar
pub mod StandardFacts
mod EventTexts
mod Longest
mod By
