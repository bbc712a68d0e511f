pub mod ComingLaws
pub mod RetraceMoves
pub mod StandingPlaces
pub mod TableActs
pub mod TakenSources
pub mod WaysOn
