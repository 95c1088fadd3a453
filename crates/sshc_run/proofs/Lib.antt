mod WordLists
mod TextLines
mod GeneratedRuns
mod ScriptArguments
mod Drawings
mod StandardFacts
