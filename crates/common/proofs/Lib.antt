-- Laws of tests, of the places below a bound, and of bytes.
-- Assumes nothing.
pub mod Settled
pub mod TestLaws
pub mod PlaceLaws
pub mod SearchLaws
pub mod OrderLaws
pub mod RisingLaws
pub mod ByteLaws
pub mod CountLaws
pub mod MemberLaws
