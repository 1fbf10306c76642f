pub mod JoinCall
pub mod JoinGroup
pub mod SpellsLinks
pub mod StoresCalls
pub mod StoresLink
pub mod TakesUpdate
pub mod TookUpdate
pub mod UpdatesFit
