-- Copies of the code for private clauses: what each rule of the parser reads. No public clause says them.
pub mod Steps
pub mod Parser
pub mod Nests
pub mod Statements
pub mod Queries
pub mod Stops
