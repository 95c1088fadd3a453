use Rattle.std.proofs.Common.{rules, ◌≡◌, ℕ, List, length, ap}
use Rattle.sshc_client.proofs.RowLemmas.{disconnect_first, global_first, other_first}
use Rattle.sshc_client.proofs.session.Session.first.Goals as goal

pub returns-then-number-eq-DISCONNECT : goal.returns-then-number-eq-DISCONNECT
returns-then-number-eq-DISCONNECT g c = record {
  row = rw (← c.self.view_is) (disconnect_first _ _ (g.V.Verifier.accepts c.args.verifier.now) c.self.inside.connection _ c.args.packet.now c.args.number c.args.body.now c.disconnect.result _ c.requires.whole (search (rules)) c.own.ensures c.disconnect.ensures.row);
}

pub returns-then-number-eq-GLOBAL_REQUEST : goal.returns-then-number-eq-GLOBAL_REQUEST
returns-then-number-eq-GLOBAL_REQUEST g c = record {
  row = global_first _ _ _ (g.V.Verifier.accepts c.args.verifier.now) c.args.self.now _ c.args.packet.now (length c.as_slice.result.now) c.args.number c.args.body.now _ c.requires.whole (ap (λ (xs : List ℕ). length xs) c.as_slice.ensures.same) (search (rules)) c.packet.ensures.row;
}

pub returns : goal.returns
returns g c = record {
  row = other_first _ _ _ (g.V.Verifier.accepts c.args.verifier.now) c.args.self.now _ c.args.packet.now (length c.as_slice.result.now) c.args.number c.args.body.now _ c.requires.whole (ap (λ (xs : List ℕ). length xs) c.as_slice.ensures.same) (search (rules)) (search (rules)) c.heard.ensures.row;
}
