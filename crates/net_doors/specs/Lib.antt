pub mod Doors
pub mod Memory
pub mod Serving
pub mod Sockets
