-- The grammars of the peer's packets as relations between packets and bytes (RFC 4254, sections 5 to 7), and that
-- reading agrees with them: what is read has those bytes, and whatever has them is read. The readers go from left to
-- right; the relations say what a packet contains.
pub mod Channels
pub mod Requests
pub mod Opens
