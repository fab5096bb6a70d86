pub mod TableRules
pub mod WordBytes
pub mod Mixing
pub mod RoundBytes
pub mod ScheduleWords
pub mod KeyOf
pub mod PrintedValues
pub mod Lengths
