pub mod Numbering
pub mod Changes
pub mod Slices
pub mod Keeping
pub mod ByVbucketLemmas
pub mod Sending
