pub mod ScannedFields
pub mod Request
pub mod Response
pub mod GetAndFlush
pub mod RequestEncoding
pub mod Rows
pub mod EncodableMessages
