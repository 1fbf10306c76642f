pub mod Accounts
pub mod Named
pub mod Rewrites
pub mod Lifted
