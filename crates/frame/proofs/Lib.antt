-- Laws of the definitions in specs/.
-- Assumes nothing.
pub mod DigitLaws
pub mod Stores
pub mod FrameLaws
pub mod StoredLaws
pub mod RoundTrip
pub mod Settled
