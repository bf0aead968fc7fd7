-- What a reader must believe of a run over the drill's records.
-- Assumes nothing.
pub mod Days
