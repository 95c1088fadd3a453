-- A run whose events come one at a time: one call more, and what it guarantees at each pause and at its end.
use Rattle.std.proofs.Common.{◌≡◌, ℕ, ◌+◌, ◌-◌, List, [], ◌++◌, length, drop, Option, Some, true, false, Result, Ok, Err, refl, ap, sym, ◌∙◌, subst, arith}
use Rattle.std.proofs.Math.Seq.{drop-append_seam}
use Rattle.std.proofs.lemmas.List.Concat.{flat_map-append}
use Rattle.sshc_auth.specs.declared.ended.Ended.TheVariants.{ScriptEnd}
use Rattle.sshc_client.specs.declared.config.Config.{Config}
use Rattle.sshc_hosts.specs.HostText.{host_text}
use Rattle.sshc_run_script.specs.LoopInvariant.{BringsTo, Pauses}
use Rattle.sshc_run_script.specs.Outcome.{Moved}
use Rattle.sshc_run_script.specs.Paused.{Paused, is_stopped, spot_of, started, table_from}
use Rattle.sshc_run_script.specs.PausedRuns.{History, nothing_yet, followed_by, text_since, outside_of, step_of, HasRun, IsRun, Stopped, Takes}
use Rattle.sshc_run_script.specs.RunFaults.{fault_counts, FaultsAnswered}
use Rattle.sshc_run_script.specs.RunPromises.{RunAsked, run_asked}
use Rattle.sshc_run_script.specs.SessionLaws.{SessionLaws}
use Rattle.sshc_run_script.proofs.RunNames.{append-nil, append, Record, SignCall, since, Answer, Ended, Accepts, RunError, Machine, Streams, streams, Ending, told, cut, unread, ending_of, EndsAs, Ends, line, lines, RunState, run_machine, run_turn, Run, Spot, Table, at_first, run}
use Rattle.sshc_run_script.proofs.KeptPromises.{promised, no_fault}
use Rattle.sshc_run_script.proofs.Promises.{since_is, by_events}
use Rattle.sshc_run_script.proofs.RunLoop.{brings_none, brings_two, along_ends}
use Rattle.sshc_run_script.proofs.RunUnfold.{ends_at_end}

-- ---- the same after another text and other calls

-- the text that was added
added_is : (b n u : List ℕ) → Some n ≡ append (Some b) u → text_since b n ≡ u
added_is b n u is = let same : n ≡ b ++ u = cc in ap (drop (length b)) same ∙ drop-append_seam b u

module _ (left left' : Option (List ℕ)) (b n x : List ℕ) (reads reads' : ℕ) (calls calls' cs : List SignCall) where
  abbrev was : Streams
  was = streams left (Some b) reads calls

  abbrev now : Streams
  now = streams left' (Some n) reads' calls'

  abbrev was' : Streams
  was' = streams left (Some x) 0 cs

  abbrev now' : Streams
  now' = streams left' (Some (x ++ text_since b n)) 0 (cs ++ since calls calls')

  wrote : (u : List ℕ) → Some n ≡ append (Some b) u → Some (x ++ text_since b n) ≡ append (Some x) u
  wrote u is = ap (λ (t : List ℕ). Some (x ++ t)) (added_is b n u is)

  rebased_as : (ending : Ending) (table : List Answer → List ℕ → Run) (given : List ℕ) (gained : List SignCall) (a : Result Ended RunError) → EndsAs ending table given gained was now a → EndsAs ending table given gained was' now' a
  rebased_as told table given gained a by = record { all = wrote _ by.all; stop = by.stop; rest = by.rest; just = by.just; whole = by.whole }
  rebased_as cut table given gained a (part, others, due, is) = (part, others, due, wrote part is)
  rebased_as unread table given gained a is = wrote _ is

  rebased : (max place last : ℕ) (table : List Answer → List ℕ → Run) (a : Result Ended RunError) → Ends max place last table was now a → Ends max place last table was' now' a
  rebased max place last table a (given, gained, end) = (
    given,
    gained,
    record {
      read = end.read;
      asked = ap (λ (more : List SignCall). cs ++ more) (since_is calls calls' gained end.asked);
      made = end.made;
      by = rebased_as (ending_of a) table given gained a end.by;
      early = λ later front c more is. (let earlier = end.early later front c more is in (earlier.0, wrote _ earlier.1));
      count = omega arith;
      few = end.few;
    },
  )

-- ---- what a history guarantees

module _ (laws : SessionLaws) (asked : RunAsked) where
  abbrev machine : Machine RunState
  machine = run_machine asked.hosts asked.accepts asked.settings

  abbrev first : Spot RunState
  first = at_first machine.first

  abbrev table : Table RunState
  table = run (run_turn asked.hosts asked.accepts)

  -- it ends so
  run_ended : (h : History) (turns n : ℕ) (at : Spot RunState) (records : List Record) (events left text : List ℕ) (calls : List SignCall) (a : Result Ended RunError) → turns + n ≡ asked.max_events → h.text ≡ lines records →
      BringsTo table first asked.max_events turns at h.script h.calls records → Ends n at.place at.last (table n at) (streams (Some events) (Some h.text) 0 h.calls) (streams (Some left) (Some (h.text ++ text)) 0 (h.calls ++ calls)) a →
      FaultsAnswered (fault_counts 0 0) (fault_counts 0 0) a → HasRun asked (followed_by h events calls text) left a
  run_ended h turns n at records events left text calls a count is brings ends faults =
      let remain : n ≡ asked.max_events - turns = omega (arith, count) in
      let here = subst (λ (k : ℕ). Ends k at.place at.last (table k at) (streams (Some events) (Some h.text) 0 h.calls) (streams (Some left) (Some (h.text ++ text)) 0 (h.calls ++ calls)) a) remain ends in
      let moved : Moved (streams (Some (h.script ++ events)) (Some []) 0 []) (streams (Some events) (Some h.text) 0 h.calls) h.script h.calls (lines records) =
      record { read = refl; asked = refl; wrote = ap Some is; count = omega arith }
      in
      let whole = along_ends table first asked.max_events turns at _ _ (streams (Some left) (Some (h.text ++ text)) 0 (h.calls ++ calls)) a (omega (arith, count))
      (h.script, h.calls, records, moved, brings) here
      in
      promised laws asked (outside_of (h.script ++ events) [] []) (outside_of left (h.text ++ text) (h.calls ++ calls)) a (by_events machine asked.max_events _ _ a whole)
      (record {
        last_read = omega arith;
        last_write = omega arith;
        writes = (h.text ++ text, refl, omega arith);
        faults = faults;
      })

  paused_promised : (h : History) (turns n : ℕ) (at : Spot RunState) (records : List Record) → turns + n ≡ asked.max_events → h.text ≡ lines records → BringsTo table first asked.max_events turns at h.script h.calls records →
      HasRun asked h [] (Ok ScriptEnd)
  paused_promised h turns n at records count is brings =
      rw (append-nil h.script, append-nil h.text, append-nil h.calls) at
      (run_ended h turns n at records [] [] [] [] (Ok ScriptEnd) count is brings
      -- at a pause the script may end
      (rw (append-nil h.text, append-nil h.calls)
      (ends_at_end (run_turn asked.hosts asked.accepts) at (streams (Some []) (Some h.text) 0 h.calls) (Some []) 0 refl refl (omega arith) n))
      (no_fault (fault_counts 0 0) (Ok ScriptEnd) (λ e. cc) (λ e. cc)))

  -- ---- one call

  module _ (h : History) (old : Paused) (is : IsRun asked h old) (events b n : List ℕ) (reads reads' : ℕ) (calls calls' : List SignCall) where
    -- an event stopped the run
    pub stops_run : (left : List ℕ) (a : Result Ended RunError) →
        Ends old.remaining old.place old.last (table_from old asked.accepts old.remaining (spot_of old)) (streams (Some events) (Some b) reads calls) (streams (Some left) (Some n) reads' calls') a →
        FaultsAnswered (fault_counts 0 0) (fault_counts 0 0) a → HasRun asked (followed_by h events (since calls calls') (text_since b n)) left a
    stops_run left a ends faults =
        let here : Ends old.remaining old.place old.last (table old.remaining (spot_of old)) (streams (Some events) (Some b) reads calls) (streams (Some left) (Some n) reads' calls') a = rw is.hosts at ends in
        run_ended h is.turns old.remaining (spot_of old) is.records events left (text_since b n) (since calls calls') a is.count is.text is.brings
        (rebased (Some events) (Some left) b n h.text reads reads' calls calls' h.calls old.remaining old.place old.last (table old.remaining (spot_of old)) a here) faults

    -- the run went on
    pub goes_on_run : (new : Paused) (left : List ℕ) → new.hosts ≡ old.hosts → new.over ≡ false → left ≡ [] →
        Pauses (table_from old asked.accepts) (spot_of old) old.remaining (spot_of new) new.remaining (streams (Some events) (Some b) reads calls) (streams (Some left) (Some n) reads' calls') →
        IsRun asked (followed_by h events (since calls calls') (text_since b n)) new
    goes_on_run new left hosts going none (le, (given, gained, records, moved, brings)) =
        let remain : old.remaining ≡ asked.max_events - is.turns = omega (arith, is.count) in
        let event : events ≡ given = (let whole : events ≡ given ++ left = cc in whole ∙ ap (λ (rest : List ℕ). given ++ rest) none ∙ append-nil given) in
        let asked_now : since calls calls' ≡ gained = since_is calls calls' gained moved.asked in
        let output : text_since b n ≡ lines records = added_is b n (lines records) moved.wrote in
        let then_on : BringsTo table (spot_of old) (asked.max_events - is.turns) (old.remaining - new.remaining) (spot_of new) given gained records = rw is.hosts at (subst (λ (k : ℕ). BringsTo (table_from old asked.accepts) (spot_of old) k (old.remaining - new.remaining) (spot_of new) given gained records) remain brings) in
        let turns : ℕ = is.turns + (old.remaining - new.remaining) in
        let whole : BringsTo table first asked.max_events turns (spot_of new) (h.script ++ given) (h.calls ++ gained) (is.records ++ records) =
        brings_two table first asked.max_events is.turns (spot_of old) h.script h.calls is.records is.brings (old.remaining - new.remaining) (spot_of new) given gained records then_on
        in
        let count : turns + new.remaining ≡ asked.max_events = omega (arith, is.count, le) in
        let text : h.text ++ lines records ≡ lines (is.records ++ records) = ap (λ (t : List ℕ). t ++ lines records) is.text ∙ sym (flat_map-append line is.records records) in
        rw (event, asked_now, output)
        (record {
          promised = paused_promised (followed_by h given gained (lines records)) turns new.remaining (spot_of new) (is.records ++ records) count text whole;
          hosts = hosts ∙ is.hosts;
          going = going;
          turns = turns;
          count = count;
          records = is.records ++ records;
          text = text;
          brings = whole;
        })

-- before its first event, by its arguments
pub started_run : (laws : SessionLaws) (host : List ℕ) (port : ℕ) (known : List ℕ) (accepts : Accepts) (config : Config) → IsRun (run_asked host port known accepts config) nothing_yet (started (host_text host port) known config)
started_run laws host port known accepts config =
    let asked = run_asked host port known accepts config in
    let none = brings_none (table laws asked) (first laws asked) asked.max_events (first laws asked) refl in
    record {
      promised = paused_promised laws asked nothing_yet 0 asked.max_events (first laws asked) [] (omega arith) refl none;
      hosts = refl;
      going = refl;
      turns = 0;
      count = omega arith;
      records = [];
      text = refl;
      brings = none;
    }

-- ---- what became of the events

module _ (laws : SessionLaws) (accepts : Accepts) (old new : Paused) (events b n : List ℕ) (reads reads' : ℕ) (calls calls' : List SignCall) (left : List ℕ) where
  -- the run over the events ended so, and its faults are told
  pub record RanSo (a : Result Ended RunError) : Type 0 where
    pub going : old.over ≡ false
    pub over : new.over ≡ is_stopped a
    pub hosts : new.hosts ≡ old.hosts
    pub ends : Ends old.remaining old.place old.last (table_from old accepts old.remaining (spot_of old)) (streams (Some events) (Some b) reads calls) (streams (Some left) (Some n) reads' calls') a
    pub pauses : a ≡ Ok ScriptEnd → Pauses (table_from old accepts) (spot_of old) old.remaining (spot_of new) new.remaining (streams (Some events) (Some b) reads calls) (streams (Some left) (Some n) reads' calls')
    pub faults : FaultsAnswered (fault_counts 0 0) (fault_counts 0 0) a

  stopped_by : (a : Result Ended RunError) → is_stopped a ≡ true → RanSo a → Stopped accepts old events (since calls calls') (text_since b n) new a
  stopped_by a stops so = (
    so.going,
    so.over ∙ stops,
    λ asked h same is. (
      left,
      stops_run laws asked h old is events b n reads reads' calls calls' left a
          (subst (λ (x : Accepts). Ends old.remaining old.place old.last (table_from old x old.remaining (spot_of old)) (streams (Some events) (Some b) reads calls) (streams (Some left) (Some n) reads' calls') a) (sym same) so.ends) so.faults,
    ),
  )

  pub takes_by : (a : Result Ended RunError) → RanSo a → Takes accepts old events (since calls calls') (text_since b n) new (step_of a)
  takes_by (Ok ScriptEnd) so = (
    so.going,
    so.over,
    λ asked h same is.
        goes_on_run laws asked h old is events b n reads reads' calls calls' new left so.hosts so.over (so.ends.2.by.whole refl)
        (subst (λ (x : Accepts). Pauses (table_from old x) (spot_of old) old.remaining (spot_of new) new.remaining (streams (Some events) (Some b) reads calls) (streams (Some left) (Some n) reads' calls')) (sym same) (so.pauses refl)),
  )
  takes_by (Ok e) so = stopped_by (Ok e) refl so
  takes_by (Err e) so = stopped_by (Err e) refl so
