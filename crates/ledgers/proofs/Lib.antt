-- Laws of the definitions in specs/.
-- Assumes nothing.
pub mod LedgerLaws
pub mod OtherLaws
pub mod AllLedgers
