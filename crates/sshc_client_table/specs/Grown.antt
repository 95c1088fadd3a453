-- What a borrower of a session may do to it: the moves of its methods, one after the other.
-- A list of moves; the code is whatever a handler does by the methods.
use Rattle.std.specs.Prelude.{◌≡◌, List, [], ◌∷◌, None}
use Rattle.std.specs.List.{AllByRecursion}
use Rattle.sshc_client_table.specs.SessionState.{SessionState}
use Rattle.sshc_client_table.specs.Moves.{Move, Sends, EndsBytes, Closes, Opens, RequestsOn, Asks, Disconnects, DeniesTicket, Begins, Leaves, done}

-- a method opens a channel without a ticket
abbrev pub May : Move → Type 0
May (Sends id stream bytes) = Unit {0}
May (EndsBytes id) = Unit {0}
May (Closes id) = Unit {0}
May (Opens asked None) = Unit {0}
May (RequestsOn id request) = Unit {0}
May (Asks ask) = Unit {0}
May (Disconnects reason description language) = Unit {0}
May (DeniesTicket ticket) = Unit {0}
May Begins = Unit {0}
May Leaves = Unit {0}
May m = ⊥

pub record Grown (old new : SessionState) : Type 0 where
  pub moves : List Move
  pub may : AllByRecursion May moves
  pub is : new ≡ done moves old

-- `Grown` is reflexive and transitive, and holds for each move of a method
pub record GrownIsClosed : Type 0 where
  pub same : (s : SessionState) → Grown s s
  pub next : (s t u : SessionState) → Grown s t → Grown t u → Grown s u
  pub move : (m : Move) (s : SessionState) → May m → Grown s (done (m ∷ []) s)
