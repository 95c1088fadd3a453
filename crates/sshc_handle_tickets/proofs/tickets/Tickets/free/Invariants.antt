use Rattle.std.proofs.Common.{◌≡◌, ◌-◌}
use Rattle.sshc_handle_tickets.specs.Tickets.{free_within}
use Rattle.sshc_handle_tickets.proofs.tickets.Tickets.free.Given as goal

-- the numbers that remain to be tried have the same result
abbrev pub invariant-loop : goal.invariant-loop
invariant-loop l = free_within (l.end - l.counter) l.self l.number ≡ free_within l.end l.self l.initial.number
