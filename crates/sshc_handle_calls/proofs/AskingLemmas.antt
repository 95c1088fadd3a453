-- Calls of a line that are added one after the other.
use Rattle.std.proofs.Common.{◌≡◌, refl, sym, ap, ◌∙◌, List, [], ◌∷◌, ◌++◌, Option, Some, None, Result}
use Rattle.std.proofs.lemmas.List.{map-append, append-nil, append_assoc}
use Rattle.std.proofs.lemmas.List.Elements.{All-append, All-nil, All-cons}
use Rattle.sshc_wire.specs.declared.record.Record.{Record}
use Rattle.sshc_wire.specs.declared.ticket.Ticket.{Ticket}
use Rattle.sshc_auth.specs.declared.error.Error.{Error}
use Rattle.sshc_handle_calls.specs.Asking.{Passes}
use Rattle.sshc_handle_calls.specs.Lines.{Calls, LineCall, gains, taken, takings}

gains_none : (calls : Calls) → calls ≡ gains calls []
gains_none None = refl
gains_none (Some before) = ap Some (sym (append-nil before))

gains_both : (calls : Calls) (xs ys : List LineCall) → gains (gains calls xs) ys ≡ gains calls (xs ++ ys)
gains_both None xs ys = refl
gains_both (Some before) xs ys = ap Some (append_assoc before xs ys)

pub nothing_passed : {A : Type 0} (reads : Record → Option (Result A Error)) (ticket : Ticket) (calls : Calls)
    → Passes reads ticket calls calls
nothing_passed reads ticket calls = record { passed = []; unread = All-nil (λ output. reads output ≡ None); calls = gains_none calls }

pub one_more_passed : {A : Type 0} (reads : Record → Option (Result A Error)) (ticket : Ticket) (old mid new : Calls) (output : Record)
    → Passes reads ticket old mid → reads output ≡ None → new ≡ gains mid (taken ticket output ∷ []) → Passes reads ticket old new
one_more_passed reads ticket old mid new output before unread told =
    let None-of : Record → Type 0 = λ r. reads r ≡ None in
    record {
      passed = before.passed ++ output ∷ [];
      unread = All-append None-of before.passed (output ∷ []) before.unread (All-cons None-of output [] unread (All-nil None-of));
      calls = told ∙ ap (λ c. gains c (taken ticket output ∷ [])) before.calls
          ∙ gains_both old (takings ticket before.passed) (taken ticket output ∷ [])
          ∙ ap (gains old) (sym (map-append (taken ticket) before.passed (output ∷ [])));
    }
