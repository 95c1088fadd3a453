-- A line by the fields that were cut off its text.
use Rattle.std.proofs.Common.{◌≡◌, ℕ, List, [], ◌∷◌, Option, Some, None, IfSome, ap, sym, ◌∙◌}
use Rattle.std.specs.Prelude.{IfNone}
use Rattle.std.specs.List.{join_with_byte}
use denote.Ref.{Bor}
use Rattle.sshc_hosts.specs.declared.marks.Mark.{Mark}
use Rattle.sshc_hosts.specs.MatchingLines.{parts_at}
use Rattle.sshc_audit.specs.Lines.{Line, line_in}
use Rattle.sshc_audit.proofs.Parts.{join_parts}

by_fields : (mark : Mark) (host rest name key : List ℕ) (later : List (List ℕ)) → parts_at 32 rest ≡ name ∷ key ∷ later
    → Some (record { mark = mark; host = host; key = key; rest = rest }) ≡ line_in mark (host ∷ parts_at 32 rest)
by_fields mark host rest name key later is =
    let whole : rest ≡ join_with_byte 32 (name ∷ key ∷ later) = sym (join_parts 32 rest) ∙ ap (join_with_byte 32) is in
    let line : (r : List ℕ) → Line = λ r. record { mark = mark; host = host; key = key; rest = r } in
    ap (λ (r : List ℕ). Some (line r)) whole ∙ ap (λ (fields : List (List ℕ)). line_in mark (host ∷ fields)) (sym is)

pub with_rest : (mark : Mark) (host rest name behind key : List ℕ) (o : Option (Bor (List ℕ))) → parts_at 32 rest ≡ name ∷ parts_at 32 behind
    → IfNone o (parts_at 32 behind ≡ key ∷ []) → IfSome o (λ later. parts_at 32 behind ≡ key ∷ parts_at 32 later.now)
    → Some (record { mark = mark; host = host; key = key; rest = rest }) ≡ line_in mark (host ∷ parts_at 32 rest)
with_rest mark host rest name behind key None first none some = by_fields mark host rest name key [] (first ∙ ap (λ (fields : List (List ℕ)). name ∷ fields) none)
with_rest mark host rest name behind key (Some later) first none some =
    by_fields mark host rest name key (parts_at 32 later.now) (first ∙ ap (λ (fields : List (List ℕ)). name ∷ fields) some)
