-- A call of a handler that keeps none of the defaults: what it does to the session and to its count of refusals.
use Rattle.std.proofs.Common.{◌≡◌, ◌≤◌, ℕ, [], inl, refl}
use Rattle.std.specs.Prelude.{Result, OnErr}
use Rattle.sshc_wire.specs.Faults.{Rose}
use Rattle.sshc_client_table.specs.SessionRow.{Callback}
use Rattle.sshc_client_table.specs.SessionState.{SessionState}
use Rattle.sshc_client_table.specs.Grown.{Grown}
use Rattle.sshc_client.specs.Handling.{Handles, handler_at}

pub handles : {T E : Type 0} (default : Result T E) (was now : ℕ) (old new : SessionState) (result : Result T E)
    → Grown old new → was ≤ now → OnErr result (Rose was now)
    → (heard : Callback) → Handles ⊥ heard default (handler_at was [] []) (handler_at now [] []) old new result
handles default was now old new result grown later cause heard = record {
  grown = grown;
  keeps = record { later = later; kept = refl; heard = inl refl };
  cause = cause;
  default_body = λ never. elim never [ ];
}
