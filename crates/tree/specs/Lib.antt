-- The definitions, in document 01's order: the table and the path to a leaf, node requests, the commands, what is sound and what it
-- spells, and what the store asks of requests.
pub mod Table
pub mod NodeRequest
pub mod Get
pub mod Put
pub mod Delete
pub mod Scan
pub mod Tree
pub mod Spells
pub mod Sound
pub mod Fit
pub mod Narrow
-- Worked cases, run by the definitions alone.
pub mod Worked
