pub mod EventParts
pub mod FollowedSides
pub mod FoundPlaces
pub mod JoinedCalls
pub mod JoinedWalks
pub mod SearchSteps
pub mod SearchedFeeds
pub mod StoppedWalks
pub mod WokenFeeds
pub mod MovedCursors
pub mod ShownPlaces
mod LackedCursors
mod MatchingLoop
pub mod PairStacks
pub mod OwnTables
pub mod FoundSearches
pub mod PaidMoves
pub mod FinishedBoxes
