-- What the theorems of soundness speak of.
-- Assumes nothing.
pub mod Shaped
pub mod Taken
