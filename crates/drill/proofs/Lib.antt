-- Laws of reading in parts.
-- Assumes nothing.
pub mod MoveLaws
pub mod StreamLaws
