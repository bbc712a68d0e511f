pub mod ArgumentLists
mod BuilderCalls
mod BuilderTerms
mod CharacterOrder
pub mod Heads
mod Integers
mod MeaningMaps
pub mod Operators
mod SymbolTexts
mod TermMeasures
mod TermOrders
mod TotalOrder
