pub mod AmongAlike
pub mod EffectOrder
pub mod Untainted
pub mod Refusal
pub mod Plain
pub mod FirstTest
pub mod FirstPair
pub mod PairResults
