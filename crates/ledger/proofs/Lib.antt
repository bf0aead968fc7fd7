-- Laws of the definitions in specs/.
-- Assumes nothing.
pub mod StateLaws
pub mod SoundLaws
pub mod StepLaws
pub mod JudgeLaws
pub mod Exactly
pub mod Computing
pub mod Settled
