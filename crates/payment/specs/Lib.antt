-- What a reader must believe of one payment.
-- Assumes nothing.
pub mod Stamps
pub mod Payments
