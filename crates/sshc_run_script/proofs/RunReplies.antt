-- Along a run requests are answered in order: the law of each row's moves, joined over the steps.
use Rattle.std.proofs.Common.{◌≡◌, ℕ, List, [], ◌++◌, Option, ap, sym, ◌∙◌, append_assoc}
use Rattle.sshc_client_table.specs.declared.reply_entry.ReplyEntry.{ReplyEntry}
use Rattle.sshc_client_table.specs.ReplyQueue.{RepliesAreInOrder}
use Rattle.sshc_run_script.specs.ReplyOrder.{requests_at, requests_along, requests_of, AreInOrder}
use Rattle.sshc_run_script.proofs.RunNames.{append-nil, SignCall, Answer, Makes, Accepts, SessionState, session_row, all_moves, default_opinions, Frame, RunSettings, Hosts, SessionTurn, session_turn}
use Rattle.sshc_run_script.proofs.RunSteps.{session_along}
use Rattle.sshc_run_script.proofs.SessionTurns.{turn_by}

-- the requests that were answered, and then those that still wait, are those that waited and then those that were
-- written
abbrev InOrder : List ReplyEntry → List ReplyEntry → List ReplyEntry → Type 0
InOrder waiting asked waiting' = (answered : List ReplyEntry) × (answered ++ waiting' ≡ waiting ++ asked)

-- one after the other
in_order_two : (a b c x y : List ReplyEntry) → InOrder a x b → InOrder b y c → InOrder a (x ++ y) c
in_order_two a b c x y (answered, is) (more, same) = (
  answered ++ more,
  append_assoc answered more c ∙ ap (λ (l : List ReplyEntry). answered ++ l) same ∙ sym (append_assoc answered b y) ∙ ap (λ (l : List ReplyEntry). l ++ y) is ∙ append_assoc a x y,
)

none_asked : (waiting : List ReplyEntry) → InOrder waiting [] waiting
none_asked waiting = ([], sym (append-nil waiting))

module _ (law : RepliesAreInOrder) (hosts : Hosts) (accepts : Accepts) where
  turn_in_order : (s : SessionState) (frame : Frame) (gained : List SignCall) (t : SessionTurn) → Makes (session_turn hosts accepts s frame) gained t → InOrder s.replies (requests_at accepts s frame) t.state.replies
  turn_in_order s frame =
      turn_by hosts accepts s frame (λ read gained t. InOrder s.replies (requests_of accepts s read) t.state.replies)
      (λ event on. rw on (law.order (all_moves (session_row accepts (default_opinions s) s event)) s))
      (λ event gained t un makes. rw un (none_asked s.replies)) (λ e. none_asked s.replies)

  -- each state that the session comes to
  pub replies_in_order : (settings : RunSettings) (max : ℕ) (answers : List Answer) (script : Option (List ℕ)) → AreInOrder hosts accepts settings max answers script
  replies_in_order settings max answers script = λ bytes output steps s path.
      let order = session_along hosts accepts (λ s steps s'. InOrder s.replies (requests_along accepts steps) s'.replies) (λ s. none_asked s.replies)
      (λ s frame gained t steps s' so makes on later. in_order_two s.replies t.state.replies s'.replies (requests_at accepts s frame) (requests_along accepts steps) (turn_in_order s frame gained t makes) later)
      settings max answers script bytes output steps s path
      in
      (order.0, sym order.1)
