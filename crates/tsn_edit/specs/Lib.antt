pub mod Batches
pub mod Changes
pub mod Configuration
pub mod Edits
pub mod Held
pub mod HeldEdits
pub mod Parts
pub mod Runs
-- words of lower crates that the public clauses cite
pub use Rattle.tsn_types.specs.Bounds
pub use Rattle.tsn_types.specs.InRange
pub use Rattle.tsn_types.specs.Keys
pub use Rattle.tsn_types.specs.Limits
