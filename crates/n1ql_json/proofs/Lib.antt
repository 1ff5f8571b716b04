mod Members
mod Outcomes
mod Layers
mod Floats
mod Held
mod Back
mod Whole
mod Trees
