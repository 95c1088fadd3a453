-- Windows: what the peer grants, and what it uses of ours (RFC 4254, section 5.2).
use Rattle.std.specs.Prelude.{ℕ, ◌+◌, ◌-◌, ◌/◌, ◌^◌, min, Bool, ◌&&◌, List, [], ◌∷◌, if◌then◌else◌, nat_lt}
use Rattle.sshc_mux.specs.ChannelState.{Head, ChannelFlow, ChannelState}
use Rattle.sshc_mux.specs.Packets.{Packet, Adjust}
use Rattle.sshc_mux.specs.ChannelTable.Sending.{FlowTurn, still, flushed}

-- how much a grant adds to a window, which saturates at the last u32
abbrev pub held : ℕ → ℕ → ℕ
held amount window = min amount (2 ^ 32 - 1 - window)

-- the window after a grant
abbrev pub raised : ℕ → ChannelFlow → ChannelFlow
raised amount f = record f { window = f.window + held amount f.window }

-- a grant, and then what may be sent
abbrev pub grant_flow : ℕ → Bool → Head → ChannelFlow → FlowTurn
grant_flow amount exchanging h f = if h.established then flushed exchanging h (raised amount f) else still f

-- our window fell below half of the target
abbrev pub is_low : ℕ → ℕ → Bool
is_low target left = nat_lt left (target / 2)

-- a low window is raised to the target
abbrev pub refilled : ℕ → ℕ → ℕ
refilled target left = if is_low target left then target else left

-- the amount by which it is raised, if it is
abbrev pub adjust_of : ℕ → ℕ → List ℕ
adjust_of target left = if is_low target left then (target - left) ∷ [] else []

-- our window after bytes of the peer's
abbrev pub used : ℕ → ℕ → ChannelState → ℕ
used len target c = if c.head.established then refilled target (c.own_window - len) else c.own_window

-- the amount by which our window is raised after bytes of the peer's, if it is
abbrev pub returned : ℕ → ℕ → ChannelState → List ℕ
returned len target c = if c.head.established then adjust_of target (c.own_window - len) else []

abbrev pub adjust_packets : List ℕ → List Packet
adjust_packets [] = []
adjust_packets (amount ∷ amounts) = Adjust amount ∷ adjust_packets amounts

-- bytes of the peer's cause an adjust packet
abbrev pub adjusts : ℕ → ℕ → ChannelState → Bool
adjusts len target c = c.head.established && is_low target (c.own_window - len)
