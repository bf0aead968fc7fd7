-- What a reader must believe of a run.
-- Assumes nothing.
pub mod Run
pub mod Claims
