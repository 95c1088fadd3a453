mod KeyLists
mod PacketGrammar
pub mod ProofLemmas
mod StandardFacts
mod Hints
