-- Laws about the definition of joining, for `claims` and for the crates whose code joins.
pub mod MergeLaws
pub mod AgreeLaws
pub mod TableBytesLaws
pub mod JoinLaws
pub mod BytesLaws
pub mod JoinTurns
pub mod JoinedLaws
pub mod ClashLaws
pub mod JoinedHolds
pub mod LongestTable
pub mod WorkedOrder
