mod Pairs
mod FieldLemmas
mod LineLemmas
mod WrittenLines
mod StandardFacts
mod Levels
mod Hints
