pub mod Alike
pub mod Around
pub mod Bindings
pub mod ByCases
pub mod Elements
pub mod Parts
pub mod Values
