pub mod Calls
pub mod Gathering
pub mod Images
pub mod Opening
pub mod Routing
pub mod Seeing
