-- What a reader must believe of frames.
-- Assumes nothing.
pub mod Digits
pub mod Frames
pub mod Typed
