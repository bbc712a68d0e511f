mod BodyParts
mod FollowedParts
mod ConversionSteps
mod ConversionPlaces
mod BodyNodes
mod LinkedNodes
mod SharedClauses
mod ProcedureLaws
pub mod NamedProcedures
mod Numbers
mod BodyTerms
mod BoundBodies
mod FirstNames
mod VariableCounts
mod ConvertedTerm
mod CommandReading
mod AddedClauses
mod ConversionNames
pub mod Soundness
mod LoadedTerms
mod TermShapes
mod DirectiveEntries
mod DirectiveLaws
mod LoadLaws
