-- Laws of what a ledger sends.
-- Assumes nothing.
pub mod SendLaws
