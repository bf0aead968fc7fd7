-- Laws of the definitions in specs/.
-- Assumes nothing.
pub mod StampLaws
pub mod PaymentLaws
pub mod KeptLaws
pub mod HearLaws
pub mod GreatestLaws
