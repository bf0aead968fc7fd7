-- Laws of the drill's records.
-- Assumes nothing.
pub mod RecordLaws
pub mod FollowLaws
pub mod Settled
