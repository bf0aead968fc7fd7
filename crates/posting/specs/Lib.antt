-- What a reader must believe of posting.
-- Assumes nothing.
pub mod Posting
