pub mod DecodeEncode
pub mod EncodeDecode
pub mod Laws
pub mod FormatLaws
pub mod ScatterLaws
pub mod RefusalNumbers
