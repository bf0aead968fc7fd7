-- The runs that are written out.
-- Assumes nothing.
pub mod Runs
