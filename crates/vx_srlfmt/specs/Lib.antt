pub mod Codes
pub mod Headers
pub mod HeaderReading
pub mod Records
pub mod RecordReading
pub mod Kinds
