mod MessageLemmas
mod AnswerLemmas
mod CallLemmas
mod Lists
mod Faults
mod By
