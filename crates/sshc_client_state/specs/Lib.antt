pub mod Asks
pub mod OpeningStep
pub mod Start
pub mod StateCode
