pub mod UnderWay
pub mod Together
