pub mod Choices
mod Chosen
