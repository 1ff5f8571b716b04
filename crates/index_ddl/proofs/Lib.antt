mod Lookups
mod Changes
mod Places
mod Numbers
mod Writes
pub mod Sending
