-- What a reader must believe of the payments that a ledger holds.
-- Assumes nothing.
pub mod Held
