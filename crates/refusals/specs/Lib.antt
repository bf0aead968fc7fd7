-- What a reader must believe of the refusals that judge a frame.
-- Assumes nothing.
pub mod Refusals
