-- Laws of the drill's lines.
-- Assumes nothing.
pub mod DecimalLaws
pub mod TextLaws
pub mod LineLaws
pub mod Settled
