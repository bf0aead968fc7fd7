-- Words that every definition of this project uses.
-- Assumes nothing.
pub mod Places
pub mod Bits
pub mod Order
