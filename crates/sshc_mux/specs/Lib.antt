pub mod ChannelState
pub mod Places
pub mod Packets
pub mod ChannelTable
pub mod ChannelAccount
pub mod WaitingPieces
