-- What a reader must believe of the drill's records.
-- Assumes nothing.
pub mod Records
