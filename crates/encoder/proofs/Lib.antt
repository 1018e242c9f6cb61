pub mod DraftLaws
pub mod EncodeLaws
pub mod RoundTrip
pub mod RefusedAlike
