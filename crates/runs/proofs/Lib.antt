-- The runs that are written out are runs, and their logs are as said.
-- Assumes nothing.
pub mod Checking
pub mod Logs
