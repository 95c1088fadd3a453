-- What moves do to the requests that wait.
use Rattle.std.proofs.Common.{◌≡◌, Bool, true, false, List, [], ◌∷◌, ◌++◌, if◌then◌else◌, refl, ap, sym, ◌∙◌, append_assoc}
use Rattle.std.proofs.lemmas.List.{append-nil}
use Rattle.sshc_client_table.specs.declared.reply_entry.ReplyEntry.{ReplyEntry}
use Rattle.sshc_client_table.specs.Messages.{Ask, entry_of, queued, wants_answer}
use Rattle.sshc_client_table.specs.SessionState.{SessionState}
use Rattle.sshc_client_table.specs.Moves.{Deed, Move, after, deed_of, done, left_of, with_deed}
use Rattle.sshc_client_table.specs.ReplyQueue.{asked_by, asked_in, is_any}
use Rattle.sshc_client_table.specs.ListLaws.{onto-append}

abbrev pub Taken : List ReplyEntry → List ReplyEntry → List ReplyEntry → Type 0
Taken old new asked = (taken : List ReplyEntry) × (taken ++ new ≡ old ++ asked)

-- the oldest request is removed, if there is one, or no request is
some_left : (b : Bool) (old : List ReplyEntry) → (taken : List ReplyEntry) × (taken ++ left_of b old ≡ old)
some_left false old = ([], refl)
some_left true [] = ([], refl)
some_left true (first ∷ old) = (first ∷ [], refl)

by_deed : (d : Deed) (s : SessionState) → Taken s.replies (with_deed d s).replies d.asks
by_deed d s =
    let (taken, left) = some_left d.answers s.replies in (
      taken,
      ap (λ (ws : List ReplyEntry). taken ++ ws) (onto-append (left_of d.answers s.replies) d.asks)
          ∙ sym (append_assoc taken (left_of d.answers s.replies) d.asks)
          ∙ ap (λ (ws : List ReplyEntry). ws ++ d.asks) left,
    )

taken_by : (move : Move) (s : SessionState) → Taken s.replies (after move s).replies (asked_by move s)
unfolding after
taken_by move s = by_deed (deed_of move s) s

taken_then : (old mid new a b : List ReplyEntry) → Taken old mid a → Taken mid new b → Taken old new (a ++ b)
taken_then old mid new a b (t, first) (u, second) = (
  t ++ u,
  append_assoc t u new
      ∙ ap (λ (ws : List ReplyEntry). t ++ ws) second
      ∙ sym (append_assoc t mid b)
      ∙ ap (λ (ws : List ReplyEntry). ws ++ b) first
      ∙ append_assoc old a b,
)

pub in_order : (moves : List Move) (s : SessionState) → Taken s.replies (done moves s).replies (asked_in moves s)
in_order [] s = ([], sym (append-nil s.replies))
in_order (move ∷ moves) s =
    taken_then s.replies (after move s).replies (done moves (after move s)).replies (asked_by move s) (asked_in moves (after move s))
    (taken_by move s) (in_order moves (after move s))

any_if : (b : Bool) (w : ReplyEntry) → is_any (if b then w ∷ [] else []) ≡ b
any_if true w = refl
any_if false w = refl

pub flagged : (ask : Ask) → is_any (queued ask) ≡ wants_answer ask
flagged ask = any_if (wants_answer ask) (entry_of ask)
