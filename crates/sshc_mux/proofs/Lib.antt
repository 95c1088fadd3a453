mod StandardFacts
mod RefusedFacts
mod AddingLemmas
mod PieceLemmas
mod SendingLemmas
mod FlushLemmas
mod PlaceLemmas
mod IndexLemmas
mod TableLemmas
mod NumberLemmas
mod AccountLemmas
mod TestLemmas
mod TurnLemmas
mod FrontLemmas
mod PromptLemmas
pub mod NumbersLemmas
mod CallLemmas
mod LifeLemmas
mod ShapeLemmas
mod LegalLemmas
mod KeptLemmas
mod AccountLaw
mod ClosingLaw
mod AddressLemmas
pub mod QuietLemmas
mod PiecesLemmas
