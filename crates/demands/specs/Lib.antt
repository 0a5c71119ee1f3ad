-- THE PROMISES: the demands, and what document 02 adds, each a theorem that can be read alone.
pub mod TheBook
-- THE LINKS, on which they rest. The store says a book, request by request, command by command and batch by batch.
pub mod Says
pub mod Step
pub mod Commands
pub mod Run
-- Every number and every page fits its bytes; what a batch is charged fits in 64 bits.
pub mod ReplayNarrow
pub mod NodesNarrow
pub mod ServeFits
pub mod CommandFits
pub mod RequestCount
pub mod RequestFits
pub mod BatchFits
pub mod ChargesFit
pub mod PrepareFits
pub mod MountFits
-- A pool closed, mounted and prepared; its bytes; what obeys the layout.
pub mod Mount
pub mod Close
pub mod Prepare
pub mod PoolBytes
pub mod PoolAfter
pub mod PreparedPool
pub mod Obeys
-- How a call ends; one call, and a list of them; against schedules.
pub mod Ends
pub mod CommandBytes
pub mod CallBytes
pub mod OneCall
pub mod AllCalls
pub mod Standing
pub mod InCall
pub mod CallCharge
pub mod AgainstSchedules
-- Of requests: scores in any order, panels, ceilings, tags, the desk.
pub mod ScoreOrder
pub mod Reordered
pub mod AnyOrder
pub mod TwoBatches
pub mod Panels
pub mod Ceilings
pub mod Tags
pub mod Desk
pub mod DeskServes
