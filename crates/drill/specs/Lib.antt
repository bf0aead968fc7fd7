-- What the drill does with the bytes at hand.
-- Assumes nothing.
pub mod AtHand
pub mod Stream
