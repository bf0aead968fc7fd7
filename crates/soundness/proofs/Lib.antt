-- The proofs of soundness.
-- Assumes nothing.
pub mod Replacing
pub mod Apart
pub mod Hearing
pub mod Accepted
pub mod Taking
pub mod Bringing
pub mod Settling
pub mod Kept
pub mod Steps
pub mod Fresh
pub mod Postings
pub mod Named
pub mod Taken
