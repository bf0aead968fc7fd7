-- What a reader must believe of the lines that the drill prints.
-- Assumes nothing.
pub mod Decimal
pub mod Lines
pub mod Standing
