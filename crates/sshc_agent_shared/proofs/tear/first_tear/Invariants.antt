use Rattle.std.proofs.Common.{◌≡◌, ◌≤◌, take, map, length}
use Rattle.sshc_agent_shared.specs.Calls.{call_in}
use Rattle.sshc_agent_shared.proofs.tear.first_tear.Given as goal

abbrev pub invariant-loop-e : goal.invariant-loop-e
invariant-loop-e l = record {
  passed : map (λ e. call_in e.now) (take l.e-index l.entries) ≡ take l.at l.calls;
  counted : l.at ≡ l.e-index;
  within : l.at ≤ length l.calls;
}
