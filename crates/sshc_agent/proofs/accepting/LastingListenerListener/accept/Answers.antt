use Rattle.std.proofs.Common.{rules, ◌≡◌, ◌≤◌, ℕ, refl, subst}
use Rattle.sshc_wire.specs.Faults.{Rose}
use Rattle.sshc_agent.proofs.accepting.LastingListenerListener.accept.Goals as goal

pub returns-in-Err-Over : goal.returns-in-Err-Over
returns-in-Err-Over g c =
    let count : ℕ = g.A.Acceptor.faults c.try_accept.new.self in
    let same : g.A.Acceptor.faults c.loop.self.acceptor ≡ g.A.Acceptor.faults c.args.self.now.acceptor = search rules in
    let over : (g.A.Acceptor.faults c.loop.self.acceptor ≤ count) × Rose (g.A.Acceptor.faults c.loop.self.acceptor) count =
    rw c.in-Err-Over.field-0-is at c.in-Err-Over.ensures.over in
    record {
      cause = record {
        later = subst (λ (n : ℕ). n ≤ count) same over.0;
        fault = λ is. subst (λ (n : ℕ). Rose n count) same over.1;
        same = λ none. absurd (none refl);
      };
    }
