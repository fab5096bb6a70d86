pub mod Steps
pub mod Fields
pub mod FieldsRead
pub mod Headers
pub mod Frames
pub mod Further
pub mod KeyLengths
pub mod Requests
mod Pieces
pub mod Opening
mod Follow
pub mod Accounted
pub mod Lengths
pub mod Sealing
mod Nonces
pub mod Ends
mod Behind
mod FrameList
mod Changed
mod Shown
