-- What a reader must believe of the held payments in a sound state.
-- Assumes nothing.
pub mod Checked
