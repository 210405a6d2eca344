pub mod Inverters
pub mod BareCells
pub mod TiedReadings
pub mod WaveLemmas
pub mod Blinds
pub mod HandFlats
pub mod KeeperFlats
