-- The moments of a connection's calls: those that its clock returned, in their order.
-- The definitions are about whole lists of moments and calls; the code asks the clock before each call.
use Rattle.std.specs.Prelude.{◌≡◌, ◌⊎◌, ℕ, List, [], ◌∷◌, ◌++◌, length, map, Option}
use Rattle.sshc_wire.specs.Contents.{append}
use Rattle.sshc_wire.specs.Faults.{Rose}
use Rattle.sshc_agent_shared.specs.declared.call.Call.{Call}
use Rattle.sshc_agent_shared.specs.Kept.{SeatState}

abbrev pub moments_of : List Call → List ℕ
moments_of calls = map (λ call. call.moment) calls

-- one call, answered or refused: the clock returned one more moment, and a call that was added has that moment
pub record IsTick (told told' : Option (List ℕ)) (seat seat' : SeatState) : Type 0 where
  pub now : ℕ
  pub tick : told' ≡ append told (now ∷ [])
  pub taken : (call : Call) → seat'.calls ≡ seat.calls ++ call ∷ [] → call.moment ≡ now

-- the moments of a connection's calls
pub record Timed (told told' : Option (List ℕ)) (seat seat' : SeatState) : Type 0 where
  -- the calls that were added to the seat
  pub added : List Call
  pub calls : seat'.calls ≡ seat.calls ++ added
  -- the moment at which a call was refused
  pub refused_at : List ℕ
  -- the clock returned the moments of the calls, in their order, and then that of the refused call
  pub moments : told' ≡ append told (moments_of added ++ refused_at)
  -- that is one moment; the list is empty if no call was refused
  pub once : (refused_at ≡ []) ⊎ ((length refused_at ≡ 1) × Rose seat.refused seat'.refused)

-- ---- in progress

-- the moments of the calls so far, if none was refused
pub record TimedSoFar (told told' : Option (List ℕ)) (seat seat' : SeatState) : Type 0 where
  pub added : List Call
  pub calls : seat'.calls ≡ seat.calls ++ added
  pub moments : told' ≡ append told (moments_of added)
  pub unrefused : seat'.refused ≡ seat.refused
