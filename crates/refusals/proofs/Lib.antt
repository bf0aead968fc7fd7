-- Laws of the definitions in specs/.
-- Assumes nothing.
pub mod TableLaws
pub mod RefusalLaws
pub mod Settled
