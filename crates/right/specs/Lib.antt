-- What a reader must believe of a payment in a sound state.
-- Assumes nothing.
pub mod Right
