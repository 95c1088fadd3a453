mod SameKeyLemmas
mod Hints
