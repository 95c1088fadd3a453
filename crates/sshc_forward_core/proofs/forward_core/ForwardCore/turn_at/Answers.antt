use Rattle.std.proofs.Common.{◌≡◌, rules, sym, ap, subst}
use Rattle.std.specs.FinMap.{from_entries}
use Rattle.sshc_forward_core.specs.Forwards.{Forwards, Does, turn_at}
use Rattle.sshc_forward_core.proofs.StoredLemmas.{turned_there, turned_away}
use Rattle.sshc_forward_core.proofs.forward_core.ForwardCore.turn_at.Goals as goal

pub returns : goal.returns
returns c =
    subst (λ (t : Forwards). Does (turn_at c.args.stream c.args.event.now t) t (record { pairs = from_entries (c.get_mut.follows.lender c.turn.new.self).entries; joined = from_entries c.self.inside.joined.entries }) c.turn.result) c.self.view_is
    (turned_there c.args.stream c.args.event.now c.self.inside.pairs.entries (c.get_mut.follows.lender c.turn.new.self).entries (from_entries c.self.inside.joined.entries) c.in-Some.pair.now c.turn.new.self c.turn.result
    (sym c.in-Some.ensures.value) ((c.get_mut.follows.holds c.turn.new.self).3 (search rules)).0 c.turn.ensures)

pub returns-in_default : goal.returns-in_default
returns-in_default c =
    let after : Forwards = record { pairs = from_entries c.get_mut.follows.lender-at-none.entries; joined = from_entries c.self.inside.joined.entries } in
    subst (λ (t : Forwards). (after ≡ (turn_at c.args.stream c.args.event.now t).after) × (c.none.result.items ≡ (turn_at c.args.stream c.args.event.now t).outputs)) c.self.view_is
    (turned_away c.args.stream c.args.event.now c.self.inside.pairs.entries c.get_mut.follows.lender-at-none.entries (from_entries c.self.inside.joined.entries) c.none.result.items
    (sym c.in_default.ensures.value) (ap (λ m. m.entries) c.get_mut.follows.holds-at-none) c.none.ensures)
