mod EntryLemmas
pub mod StateLemmas
mod PutLemmas
