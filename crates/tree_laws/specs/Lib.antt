-- Trees that stand in a table.
pub mod Children
pub mod Ids
pub mod Standing
pub mod Size
pub mod LeafOfKey
pub mod LeafChain
pub mod SoundLaws
pub mod Levels
-- A change at one key, leaf upwards.
pub mod Requests
pub mod Halves
pub mod Growth
pub mod Settled
pub mod Written
pub mod IdsNeeded
-- Each command is the map's.
pub mod Served
pub mod GetLaws
pub mod Agree
pub mod PutLaws
pub mod DeleteLaws
pub mod ScanLaws
pub mod NarrowLaws
