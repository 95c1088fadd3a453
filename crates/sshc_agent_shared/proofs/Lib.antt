mod Histories
mod Keeping
mod Parting
mod Seams
mod LockSteps
mod LongLaws
mod LastingSteps
mod ApartLemmas
