-- Laws of the definitions in specs/.
-- Assumes nothing.
pub mod FreeLaws
pub mod PostLaws
pub mod Settled
