mod Turns
pub mod Reading
mod Kept
mod Formed
mod Whole
mod FormedDefinitions
mod FormedQueries
mod Texts
mod OneAnswer
