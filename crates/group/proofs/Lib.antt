-- Laws of the drill's ledgers.
-- Assumes nothing.
pub mod GroupLaws
pub mod FollowLaws
pub mod Settled
