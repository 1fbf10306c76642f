pub mod Kinds
pub mod Turning
pub mod Ending
pub mod Between
pub mod Works
pub mod Burnt
pub mod Brights
pub mod OtherNotes
