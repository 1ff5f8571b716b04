pub mod Cuts
pub mod QuotedLemmas
pub mod ReadSoFar
pub mod SignLemmas
pub mod TokenLemmas
pub mod LexedSoFar
pub mod OneCut
pub mod Decided
