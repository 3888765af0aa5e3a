pub mod Acts
pub mod Begun
pub mod Chain
pub mod Chosen
pub mod Counters
pub mod Examples
pub mod Following
pub mod Frames
pub mod Instances
pub mod Passing
pub mod Rows
pub mod Standing
pub mod State
-- words of lower crates that the public clauses cite
pub use Rattle.tsn_config.specs.Ids
pub use Rattle.tsn_config.specs.Kinds
pub use Rattle.tsn_edit.specs.Configuration
pub use Rattle.tsn_edit.specs.Parts
pub use Rattle.tsn_meter.specs.Bucket
pub use Rattle.tsn_schedule.specs.Acts as ListActs
pub use Rattle.tsn_schedule.specs.Counters as ListCounters
pub use Rattle.tsn_schedule.specs.Kept
pub use Rattle.tsn_schedule.specs.Refusing
pub use Rattle.tsn_schedule.specs.Stands
pub use Rattle.tsn_schedule.specs.States
pub use Rattle.tsn_schedule.specs.Times
pub use Rattle.tsn_table.specs.Firsts
