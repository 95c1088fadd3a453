mod LiveLemmas
mod MoveLemmas
mod OpeningLemmas
mod UnknownLemmas
mod Hints
