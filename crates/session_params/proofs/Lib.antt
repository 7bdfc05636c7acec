pub mod SessionRecordLemmas
pub mod Going
