-- What a reader must believe of a ledger and its step.
-- Assumes nothing.
pub mod State
pub mod Sound
pub mod Table
pub mod Step
