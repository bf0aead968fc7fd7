-- What a reader must believe of the worked cases.
-- Assumes nothing.
pub mod Cases
pub mod Words
pub mod Table
