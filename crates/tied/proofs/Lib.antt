-- What the types of the code say of values.
-- Assumes nothing.
pub mod Values
