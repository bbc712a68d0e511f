mod ArgumentPairs
pub mod BindingsInvariant
pub mod ClauseRenaming
pub mod CopiedValues
pub mod KeptTerms
mod LoadedTerms
mod OccursCheck
mod ReductionLaws
mod RenewedTerms
pub mod StateGrowth
mod TermCopies
pub mod UndoneBindings
pub mod UnificationLoop
pub mod ValueHeads
