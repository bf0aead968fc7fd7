-- Laws of a day of the drill, and case L.
-- Assumes nothing.
pub mod DayLaws
pub mod OutputLaws
pub mod CaseL
pub mod Settled
