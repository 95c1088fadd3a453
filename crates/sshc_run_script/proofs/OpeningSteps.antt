-- A step of the opening is the table's turn.
use Rattle.std.proofs.Common.{◌≡◌, ◌⊎◌, inl, inr, ℕ, Bool, true, false, List, [], ◌++◌, Option, Some, None, Result, Ok, Err, refl, ap, sym, ◌∙◌, subst}
use Rattle.sshc_wire.specs.Outgoing.{Outgoing, shown}
use Rattle.sshc_wire.specs.OutgoingLaws.{shown-open}
use Rattle.sshc_key.specs.declared.error.Error.{Error as KeyError}
use Rattle.sshc_key.specs.declared.error.Error.TheVariants as key_errors
use Rattle.sshc_key.specs.declared.identity.PublicKeyOrCertificate.{PublicKeyOrCertificate}
use Rattle.sshc_transport.specs.declared.exchange.ExchangeResult.{ExchangeResult}
use Rattle.sshc_auth.specs.declared.error.Error.{Error}
use Rattle.sshc_auth.specs.declared.error.Error.TheVariants as auths
use Rattle.sshc_auth.specs.declared.step.Asks.{Asks}
use Rattle.sshc_auth.specs.declared.step.Asks.TheVariants as wants
use Rattle.sshc_auth.specs.declared.step.Step.{Step}
use Rattle.sshc_auth.specs.declared.step.Step.TheVariants as steps
use Rattle.sshc_auth.specs.declared.step.Told.{Told}
use Rattle.sshc_auth.specs.declared.step.Told.TheVariants as telling
use Rattle.sshc_auth.specs.Row.{Span, Adds, Steps}
use Rattle.sshc_auth.specs.Stepping.{Lent, span_of, gained, GateAnswers, gate_answers, exchange_in, told_of, Tells, Judged, Answered, map_step, GateRefused, StepsTold, StepsBy}
use Rattle.sshc_run_script.specs.declared.error.RunError.TheVariants as errors
use Rattle.sshc_run_script.specs.declared.known_hosts_handler.HandlerError.TheVariants.{Client, Key}
use Rattle.sshc_run_script.specs.KnownHosts.{AddsNothing}
use Rattle.sshc_run_script.proofs.RunNames.{append-nil, OpeningState, Record, SignCall, Asking, done, asked_on, makes_on, first_on, none_first, Event, shut, open_row, asked_of, Row, RunError, HandlerError, Hosts, Judges, Turn, row_turn, judged_turn, asked_turn, stops, handler_error_of, Took}
use Rattle.sshc_run_script.proofs.OpeningCauses.{verdict_refuses}
use Rattle.sshc_run_script.proofs.TakenEvents.{since_none}

-- ---- a step

said_all : (output : List Record) (old new : Outgoing) (s : Span) → s.old ≡ old → s.new ≡ new → old.records ≡ [] → old.muted ≡ false → Adds output s → new.records ≡ output
said_all output old new s was is none unmuted adds =
    ap (λ (o : Outgoing). o.records) (sym is) ∙ adds.0 ∙ ap (λ (o : Outgoing). o.records ++ shown o.muted output) was ∙ ap (λ (rs : List Record). rs ++ shown old.muted output) none ∙ ap (λ (b : Bool). shown b output) unmuted ∙ shown-open output

-- the turn of a row whose questions were answered
row_took : (place : ℕ) (asking : Asking Row) (s : Span) (gained : List SignCall) (answer : Step Error) (result : Step HandlerError) → s.old.records ≡ [] → s.old.muted ≡ false → result ≡ map_step Client answer →
    Steps asking gained s answer → Took (asked_on (row_turn place s.before) asking) gained place result s.after s.new.records
row_took place asking s gained steps.Went result none unmuted is (row, (makes, says), next) =
    rw is (inr (row_turn place s.before row, makes_on (row_turn place s.before) asking gained row makes, rw next (said_all row.records s.old s.new s refl refl none unmuted says), rw next refl, rw next refl))
row_took place asking s gained steps.Opened result none unmuted is (row, to, (makes, says), next, same) =
    rw is (inr (row_turn place s.before row, makes_on (row_turn place s.before) asking gained row makes, rw next (said_all row.records s.old s.new s refl refl none unmuted says), rw next same, rw next refl))
row_took place asking s gained (steps.Ended e) result none unmuted is (row, (makes, says), next, same) =
    rw is (inr (row_turn place s.before row, makes_on (row_turn place s.before) asking gained row makes, rw next (said_all row.records s.old s.new s refl refl none unmuted says), rw next same, rw next refl))
row_took place asking s gained (steps.Refused e) result none unmuted is (same, inl (memory, says, first)) =
    rw (is, memory) (inl (said_all [] s.old s.new s refl refl none unmuted says, refl, first_on (row_turn place s.before) asking gained first))
row_took place asking s gained (steps.Refused e) result none unmuted is (same, inr (row, (makes, says), next)) =
    rw is (inr (row_turn place s.before row, makes_on (row_turn place s.before) asking gained row makes, rw next (said_all row.records s.old s.new s refl refl none unmuted says), rw next same, rw next refl))
row_took place asking s gained steps.Closed result none unmuted is never = absurd never

-- the known hosts text, as a gate
abbrev pub hosts_gate : Hosts → GateAnswers HandlerError
hosts_gate hosts = gate_answers Client (Judges hosts) (λ secret names. AddsNothing) (λ text. AddsNothing)

-- ---- what the known hosts gate answers

module _ (hosts : Hosts) (place : ℕ) (s : OpeningState) (event : Event) (old mid : Outgoing) where
  -- nothing was added
  abbrev pub Clear : Type 0
  Clear = (mid.records ≡ old.records) × (mid.muted ≡ old.muted)

  -- the turn is that of what the gate told; or it refused by an error of a key, the verdict's or that memory ran out
  abbrev pub Gated : Asks → Result Told HandlerError → Type 0
  Gated asks (Ok told) = asked_turn hosts place s event asks ≡ asked_on (row_turn place s) (open_row s event told)
  Gated asks (Err e) =
      (k : KeyError) × (e ≡ Key k)
      × ((handler_error_of place e ≡ errors.NoMemory)
      ⊎ (asked_turn hosts place s event asks ≡ done (stops (shut s) (handler_error_of place e))))

  same_out : mid ≡ old → Clear
  same_out same = (ap (λ (o : Outgoing). o.records) same, ap (λ (o : Outgoing). o.muted) same)

  -- a gate that is called for an exchange or a banner adds nothing, and continues
  went : (tells : Result (Unit {0}) HandlerError → List Record → Type 0) →
      ((answer : Result (Unit {0}) HandlerError) (more : List Record) → tells answer more → AddsNothing answer more) →
      (asks : Asks) →
      Gated asks (Ok telling.Went) → (told : Result Told HandlerError) → Tells tells old mid told →
      Clear × Gated asks told
  went tells only asks turn (Ok told) (is, (u, (more, holds, resolved, records, muted))) =
      let nothing = only (Ok u) more holds in
      rw is ((records ∙ ap (λ (rs : List Record). old.records ++ rs) nothing.1 ∙ append-nil old.records, muted), turn)
  went tells only asks turn (Err e) (more, holds, resolved, records, muted) =
      let never : Err e ≡ Ok tt = (only (Err e) more holds).0 in absurd cc

  -- for an exchange
  told_nothing : (o : Option ExchangeResult) (answer : Result (Unit {0}) HandlerError) (more : List Record) →
      told_of (hosts_gate hosts) o answer more → AddsNothing answer more
  told_nothing (Some x) answer more nothing = nothing
  told_nothing None answer more never = absurd never

  -- for a host key
  judged_gated : (key : PublicKeyOrCertificate) (output : Result Bool HandlerError) (told : Result Told HandlerError) →
      Judges hosts key output →
      Judged (told_of (hosts_gate hosts) (exchange_in event)) old mid told output → Clear × Gated (wants.HostKey key) told
  judged_gated key (Ok true) told (inl is) tells =
      went (told_of (hosts_gate hosts) (exchange_in event)) (told_nothing (exchange_in event)) (wants.HostKey key)
      (ap (judged_turn place s event) (sym is)) told tells
  judged_gated key (Ok false) told (inl is) (denied, same) =
      rw denied (same_out same, ap (judged_turn place s event) (sym is))
  judged_gated key (Err e) told (inl is) (denied, same) =
      let refused = verdict_refuses hosts key e (sym is) in
      rw denied (same_out same, (refused.0, refused.1, inr (ap (judged_turn place s event) (sym is))))
  judged_gated key (Err e) told (inr memory) (denied, same) =
      let is : e ≡ Key key_errors.NoMemory = cc in
      rw denied (same_out same, (key_errors.NoMemory, is, inl (ap (handler_error_of place) is)))
  judged_gated key output told (inr memory) judged = absurd cc

  pub gated : (asks : Asks) (told : Result Told HandlerError) →
      Answered (hosts_gate hosts) (exchange_in event) old mid told asks → Clear × Gated asks told
  gated wants.Nothing told (is, same) = rw is (same_out same, refl)
  gated (wants.HostKey key) told (output, judges, judged) = judged_gated key output told judges judged
  gated wants.Exchange told tells =
      went (told_of (hosts_gate hosts) (exchange_in event))
      (told_nothing (exchange_in event)) wants.Exchange refl told tells
  gated (wants.Banner text) told tells =
      went AddsNothing (λ answer more nothing. nothing) (wants.Banner text) refl told tells

-- ---- a step with that gate

module _ (hosts : Hosts) (place : ℕ) (event : Event) (was is : Lent) (result : Step HandlerError) (none : was.outbox.records ≡ []) (unmuted : was.outbox.muted ≡ false) where
  abbrev Taken : Asking Turn → Type 0
  Taken asking = Took asking (gained was is) place result is.opening is.outbox.records

  -- memory ran out
  memory_took : (asking : Asking Turn) (e : HandlerError) (mid : Outgoing) → mid.records ≡ [] →
      handler_error_of place e ≡ errors.NoMemory →
      GateRefused e (record was { outbox = mid }) is result → Taken asking
  memory_took asking e mid empty memory (same, left, out, calls) =
      rw (same, since_none was.calls is.calls calls) (inl (ap (λ (o : Outgoing). o.records) out ∙ empty, ap (λ (x : RunError). Some (Err x)) memory, none_first asking))

  -- by what the gate answered
  told_took : (mid : Outgoing) (told : Result Told HandlerError) →
      Clear hosts place was.opening event was.outbox mid
      × Gated hosts place was.opening event was.outbox mid (asked_of was.opening event) told →
      StepsTold (hosts_gate hosts) event (record was { outbox = mid }) is result told →
      Taken (asked_turn hosts place was.opening event (asked_of was.opening event))
  told_took mid (Ok told) (clear, turn) (answer, same, does) =
      subst Taken (sym turn)
      (row_took place (open_row was.opening event told) (span_of (record was { outbox = mid }) is)
      (gained was is) answer result (clear.0 ∙ none) (clear.1 ∙ unmuted) same does)
  told_took mid (Err e) (clear, (k, of_key, inl memory)) refused = memory_took _ e mid (clear.0 ∙ none) memory refused
  told_took mid (Err e) (clear, (k, of_key, inr turn)) (same, left, out, calls) =
      subst Taken (sym turn)
      (rw (same, since_none was.calls is.calls calls)
      (inr (
        stops (shut was.opening) (handler_error_of place e),
        refl,
        ap (λ (o : Outgoing). o.records) out ∙ clear.0
            ∙ none,
        left,
        refl,
      )))

  -- a step is the table's turn, by the calls that the signer's list gained
  pub step_took : StepsBy (hosts_gate hosts) event was is result →
      Taken (asked_turn hosts place was.opening event (asked_of was.opening event))
  step_took (inl refused) = memory_took _ (Client auths.NoMemory) was.outbox none refl refused
  step_took (inr (told, mid, answered, does)) =
      told_took mid told (gated hosts place was.opening event was.outbox mid
      (asked_of was.opening event) told answered) does
