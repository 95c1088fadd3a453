-- Requests are answered in the order in which they were written (RFC 4254, section 4).
-- Stated for any list of moves, on lists; the code keeps a queue.
use Rattle.std.specs.Prelude.{◌≡◌, Bool, true, false, List, [], ◌∷◌, ◌++◌}
use Rattle.sshc_client_table.specs.declared.reply_entry.ReplyEntry.{ReplyEntry}
use Rattle.sshc_client_table.specs.Messages.{Ask, queued, wants_answer}
use Rattle.sshc_client_table.specs.SessionState.{SessionState}
use Rattle.sshc_client_table.specs.Moves.{Move, after, deed_of, done}

-- the requests that a move wrote with a reply wanted
abbrev pub asked_by : Move → SessionState → List ReplyEntry
asked_by m s = (deed_of m s).asks

abbrev pub asked_in : List Move → SessionState → List ReplyEntry
asked_in [] s = []
asked_in (m ∷ moves) s = asked_by m s ++ asked_in moves (after m s)

abbrev pub is_any : {A : Type 0} → List A → Bool
is_any [] = false
is_any (x ∷ xs) = true

-- Those that were answered are the oldest, and those that remain are the others, in the order in which they were
-- written. The flag that a request is written with says whether it waits for a reply.
pub record RepliesAreInOrder : Type 0 where
  pub order : (moves : List Move) (s : SessionState) → (taken : List ReplyEntry) × (taken ++ (done moves s).replies ≡ s.replies ++ asked_in moves s)
  pub flags : (ask : Ask) → is_any (queued ask) ≡ wants_answer ask
