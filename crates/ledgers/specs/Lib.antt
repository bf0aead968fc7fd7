-- What a reader must believe of ledgers and the bytes that name them.
-- Assumes nothing.
pub mod Ledgers
