-- What a turn takes if the rules don't come to the transport, and if they do.
use Rattle.std.proofs.Common.{◌≡◌, refl, ℕ, Bool, true, Option, Some, None, Result, Ok, sym, subst}
use Rattle.sshc_wire.specs.declared.source.Failed.{Failed}
use Rattle.sshc_transport.specs.declared.transport.TransportEvent.{TransportEvent}
use Rattle.sshc_handle_state.specs.HandleAt.{HandleAt}
use Rattle.sshc_handle_state.specs.Picking.{AsksIf, IsAsked, LinkAt, Picked, Picks, Ruled, asks_transport, begun_at, on_answer, picked, rules}
use Rattle.sshc_handle_state.specs.declared.picking.Pick.{Pick}

pub picks_ruled : (now : ℕ) (old mid new : HandleAt) (link : LinkAt) (pick : Pick) → mid ≡ begun_at now old → Ruled now mid new (Some pick) → Picks now old new link link pick
picks_ruled now old mid new link pick begun ruled =
    let fact : Ruled now (begun_at now old) new (Some pick) = subst (λ (m : HandleAt). Ruled now m new (Some pick)) begun ruled in
    record {
      answer = Ok None;
      asks = subst (λ (b : Bool). AsksIf b link link (Ok None)) (sym fact.0) refl;
      rule = fact.1 (Ok None);
    }
