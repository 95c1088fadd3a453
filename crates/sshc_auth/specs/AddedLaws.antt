-- What holds of the lists of records that the opening's rows add, if it holds of no records, of a resolved ticket, and
-- of two lists in a row.
use Rattle.std.proofs.Common.{ℕ, Bool, List, [], ◌∷◌, ◌++◌, Option, Some, None}
use Rattle.std.specs.Prelude.{◌==◌, if◌then◌else◌}
use Rattle.sshc_wire.specs.CasesLaws.{by_cases}
use Rattle.sshc_wire.specs.declared.record.Record.TheVariants.{Payload, Resolved}
use Rattle.sshc_wire.specs.declared.resolution.Resolution.TheVariants.{ExtInfoSeen}
use Rattle.sshc_auth.specs.declared.opening.Waiter.{Waiter}
use Rattle.sshc_auth.specs.Extensions.{answers_seen, answers_to, others, waits_for}
use Rattle.sshc_auth.specs.RowNames.{asked_for_service, Extension, gssapi_token, last_token, Method, Record, request, Resolution, resolved, service_request, stored_request, Ticket}

-- it holds of no records, of two lists in a row, and of a resolved ticket
pub record HoldsOfLists (L : List Record → Type 0) : Type 0 where
  pub none : L []
  pub two : (a b : List Record) → L a → L b → L (a ++ b)
  pub resolves : (ticket : Ticket) (resolution : Resolution) → L (Resolved ticket resolution ∷ [])

module _ {L : List Record → Type 0} (lists : HoldsOfLists L) where
  pub resolved_has : (ticket : Ticket) (resolution : Resolution) → L (resolved ticket resolution)
  resolved_has ticket resolution = by_cases L (ticket.0 == 0) _ _ lists.none (lists.resolves ticket resolution)

  pub behind_resolved : (ticket : Ticket) (resolution : Resolution) (more : List Record) → L more →
      L (resolved ticket resolution ++ more)
  behind_resolved ticket resolution more holds =
      lists.two (resolved ticket resolution) more (resolved_has ticket resolution) holds

  seen_has : (name : List ℕ) (waiters : List Waiter) → L (answers_seen name waiters)
  seen_has name [] = lists.none
  seen_has name (waiter ∷ waiters) =
      lists.two (if waits_for name waiter then resolved waiter.ticket ExtInfoSeen else []) (answers_seen name waiters)
      (by_cases L (waits_for name waiter) _ _ (resolved_has waiter.ticket ExtInfoSeen) lists.none)
      (seen_has name waiters)

  pub told_has : (extensions : List Extension) (waiters : List Waiter) → L (answers_to extensions waiters)
  told_has [] waiters = lists.none
  told_has (extension ∷ extensions) waiters =
      lists.two (answers_seen extension.name waiters) (answers_to extensions (others extension.name waiters))
      (seen_has extension.name waiters) (told_has extensions (others extension.name waiters))

  pub stored_has : (user : List ℕ) (method : Option Method) →
      ((stored : Method) → L (Payload (request user stored) ∷ [])) → L (stored_request user method)
  stored_has user None each = lists.none
  stored_has user (Some method) each = each method

  pub service_has : (requested : Bool) → L (Payload service_request ∷ []) → L (asked_for_service requested)
  service_has requested holds = by_cases L requested _ _ lists.none holds

  pub token_has : (token : Option (List ℕ)) (packet : List ℕ) →
      ((token : List ℕ) → L (Payload (gssapi_token token) ∷ [])) → L (Payload packet ∷ []) → L (last_token token ++ Payload packet ∷ [])
  token_has None packet each holds = holds
  token_has (Some []) packet each holds = holds
  token_has (Some (b ∷ token)) packet each holds =
      lists.two (Payload (gssapi_token (b ∷ token)) ∷ []) (Payload packet ∷ []) (each (b ∷ token)) holds
