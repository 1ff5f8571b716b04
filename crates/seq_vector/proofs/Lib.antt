pub mod PointwiseLemmas
mod Shortness
