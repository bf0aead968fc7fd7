-- What a reader must believe of the drill's ledgers.
-- Assumes nothing.
pub mod Groups
