-- What a reader must believe of what a ledger sends.
-- Assumes nothing.
pub mod Sending
