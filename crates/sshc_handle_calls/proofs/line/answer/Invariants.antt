use Rattle.sshc_handle_calls.specs.Asking.{Passes}
use Rattle.sshc_handle_calls.proofs.line.answer.Given as goal

-- the records that were taken so far aren't read
abbrev pub invariant-loop : goal.invariant-loop
invariant-loop g l =
    Passes g.A.Reader.reads l.ticket (g.L.Line.calls l.initial.line) (g.L.Line.calls l.line)
