-- Demand 1 of every call.
pub mod DemandOne
-- The pools that the lists of demands 2 and 3 begin with; these demands, of any list of calls.
pub mod Stands
pub mod DemandTwo
pub mod DemandThree
-- What document 02 adds, request by request.
pub mod P1
pub mod P2
pub mod P3
pub mod P4
pub mod P5
