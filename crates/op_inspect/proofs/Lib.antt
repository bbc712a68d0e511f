mod Acting
mod AtomicNames
mod ArgumentTexts
pub mod CopiedVariables
mod Constructing
mod Evaluating
mod FoundBindings
mod Inspecting
mod IntegerValues
mod MakingFunctors
mod MakingParts
mod MakingTerms
mod MeetingVariables
mod MetNodes
mod NamedCopies
mod PendingFunctions
mod Refusals
mod SeenLists
mod SpentSteps
pub mod TermActs
mod Tests
pub mod TextsLater
mod Unifying
mod Values
