pub mod CallEnd
pub mod GrpcStatus
pub mod Heads
pub mod Trailers
pub mod Written
