-- The proofs of the worked cases.
-- Assumes nothing.
pub mod Table
