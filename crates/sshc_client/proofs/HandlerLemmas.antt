-- A call of the handler within a row, and rows that make no call.
use Rattle.std.proofs.Common.{◌≡◌, ◌≤◌, ◌+◌, ◌⊎◌, inl, inr, ℕ, Bool, true, false, if◌then◌else◌, List, [], ◌∷◌, ◌++◌, Option, Some, None, Result, Ok, Err, refl, ap, sym, subst, ◌∙◌, arith}
use Rattle.std.specs.Prelude.{IsErrAnd, is_some, min, nat_lt}
use Rattle.sshc_wire.specs.Faults.{Rose}
use Rattle.sshc_wire.specs.declared.error.NoMemory.{NoMemory as RanOut}
use Rattle.sshc_auth.specs.declared.error.Error.{Error}
use Rattle.sshc_auth.specs.declared.error.Error.TheVariants.{Inconsistent, NoMemory}
use Rattle.sshc_client_table.specs.declared.open_answer.OpenAnswer.{OpenAnswer}
use Rattle.sshc_client_table.specs.declared.open_answer.OpenAnswer.TheVariants.{Accept}
use Rattle.sshc_wire.specs.declared.channel_open_failure.ChannelOpenFailure.TheVariants.{UnknownChannelType}
use Rattle.sshc_wire.specs.declared.channel_record.ChannelRecord.{ChannelRecord}
use Rattle.sshc_wire.specs.declared.channel_record.ChannelRecord.TheVariants as happened
use Rattle.sshc_wire.specs.declared.channel_record.ServerOpen.{ServerOpen}
use Rattle.sshc_wire.specs.declared.channel_record.ServerOpen.TheVariants as opens
use Rattle.sshc_wire.specs.declared.record.Record.TheVariants.{ServerOpened as ServerOpenedRecord}
use Rattle.sshc_wire.specs.declared.ticket.Ticket.{Ticket}
use Rattle.sshc_mux.specs.ChannelTable.{adjusted_at}
use Rattle.sshc_client_packets.specs.declared.channel_open.Confirmation.{Confirmation}
use Rattle.sshc_client_packets.specs.declared.channel_open.Sender.{Sender}
use Rattle.sshc_client_packets.specs.ChannelPackets.{Refusal}
use Rattle.sshc_client_table.specs.SessionState.{SessionState, own_window}
use Rattle.sshc_client_table.specs.Moves.{Confirms, Does, Fails, Fronts, Grants, Move, Receives, Rejects, Reserves, Targets, Tells, after, done, onto}
use Rattle.sshc_client_table.specs.SessionRow.{Callback, Opinions, ServerOpened, SessionRow, UnknownOffered, WindowRefilled, asking, behind_moves, calls_of, opining, plain_row, ends, goes, passed_over, refused, refuses, reports}
use Rattle.sshc_client_table.specs.SessionTable.Opens.{confirmed_row, failed_row, numbered_open_row, served_row, serving_row, settled}
use Rattle.sshc_client_table.specs.SessionTable.Streams.{bytes_row}
use Rattle.sshc_client_table.specs.Grown.{Grown}
use Rattle.sshc_client_table.specs.GrownLaws.{done-append, grown_same}
use Rattle.sshc_client_rows.specs.declared.flow.RowFlow.{RowFlow}
use Rattle.sshc_client_rows.specs.declared.flow.RowFlow.TheVariants as flows
use Rattle.sshc_client_rows.specs.Follows.{Follows, all_moves, default_opinions}
use Rattle.sshc_client.specs.declared.stop.Stop.{Stop}
use Rattle.sshc_client.specs.declared.stop.Stop.TheVariants.{Own, Handler}
use Rattle.sshc_client.specs.Handling.{HandlerAt, HandlerHeard, Handles, Hears, Opines}
use Rattle.sshc_client.specs.HandledRow.{Accepts, Calls, Cut, CutBehind, FollowsOne, FollowsRow, FollowsWith, Handled, HandlerRefused, LetGo, Retargets, default_answer, is_unknown, lent_result, own_result, served, target_moves, went_result}

-- ---- the handler's result

pub called : {T E : Type 0} (defaults : Type 0) (call : Callback) (default : Result T E) (was is : HandlerAt) (old new : SessionState) (answer : Result T E) →
    Handles defaults call default was is old new answer → Calls defaults call default was is old new (lent_result answer)
called defaults call default was is old new (Ok x) h = h
called defaults call default was is old new (Err e) h = h

pub no_default : {T E : Type 0} (x : T) (e : E) → Err e ≡ Ok x → ⊥
no_default x e same = absurd cc

reflexive : (n : ℕ) → n ≤ n
reflexive n = omega arith

hears_none : (calls : List Callback) (heard : List Callback) → Hears calls heard heard
hears_none [] heard = refl
hears_none (call ∷ calls) heard = inl (hears_none calls heard)

pub hears_on : (a b : List Callback) (was mid is : List Callback) → Hears a was mid → Hears b mid is → Hears (a ++ b) was is
hears_on [] b was mid is first second = subst (λ (heard : List Callback). Hears b heard is) first second
hears_on (call ∷ a) b was mid is (inl first) second = inl (hears_on a b was mid is first second)
hears_on (call ∷ a) b was mid is (inr first) second = inr (hears_on a b (call ∷ was) mid is first second)

pub same_handler : (h : HandlerAt) → HandlerHeard [] h h
same_handler h = record { later = reflexive h.refusals; kept = refl; heard = refl }

-- one call after another
pub keeps_on : {a b : List Callback} (was mid is : HandlerAt) → HandlerHeard a was mid → HandlerHeard b mid is → HandlerHeard (a ++ b) was is
keeps_on {a = a} {b = b} was mid is first second = record {
  later = not_less was.refusals mid.refusals is.refusals first.later second.later;
  kept = second.kept ∙ first.kept;
  heard = hears_on a b was.heard mid.heard is.heard first.heard second.heard;
}
  where
    not_less : (a b c : ℕ) → a ≤ b → b ≤ c → a ≤ c
    not_less a b c one two = omega (arith, one, two)

-- a handler that made none of the calls heard these at most
pub unheard : (calls : List Callback) (was is : HandlerAt) → HandlerHeard [] was is → HandlerHeard calls was is
unheard calls was is keeps = keeps_on was is is keeps (record { later = reflexive is.refusals; kept = refl; heard = hears_none calls is.heard })

-- a body that does nothing and returns the default
pub does_nothing : {T E : Type 0} (defaults : Type 0) (call : Callback) (x : T) (h : HandlerAt) (s : SessionState) → Handles {E = E} defaults call (Ok x) h h s s (Ok x)
does_nothing defaults call x h s = record { grown = grown_same s; keeps = unheard (call ∷ []) h h (same_handler h); cause = tt; default_body = λ plain. (refl, refl) }

pub rose_later : (a b c : ℕ) → a ≤ b → Rose b c → Rose a c
rose_later a b c one two = omega (arith, one, two)

-- the handler refused, or memory ran out before it was called
pub refused_call : {E : Type 0} (defaults : Type 0) (was is : HandlerAt) (callback : Callback) (back : List Move) (old new : SessionState) (stop : Stop E) →
    Calls {T = Unit {0}} defaults callback (Ok tt) was is old new (Err stop) → FollowsOne defaults was is (asking [] callback back) old new (Err stop)
unfolding asking
refused_call defaults was is callback back old new (Handler e) h = record {
  opinions = default_opinions old;
  default = λ plain. refl;
  follows = record { asked = refl; grown = h.grown; rose = h.cause; changed = λ plain. no_default tt e (h.default_body plain).0 };
  keeps = h.keeps;
}
refused_call defaults was is callback back old new (Own e) (memory, same, still) = record {
  opinions = default_opinions old;
  default = λ plain. refl;
  follows = inl (memory, inl same);
  keeps = subst (λ (h : HandlerAt). HandlerHeard (callback ∷ []) was h) (sym still) (unheard (callback ∷ []) was was (same_handler was));
}

-- the handler let the row continue, and the moves after its call were done, or some of them
let_go_moved : {E : Type 0} (defaults : Type 0) (was is : HandlerAt) (callback : Callback) (back : List Move) (old mid new : SessionState) (u : Unit {0}) (moved : Result (Unit {0}) RanOut) →
    Calls {E = E} defaults callback (Ok tt) was is old mid (Ok u) → Does back mid new moved → FollowsOne {E = E} defaults was is (asking [] callback back) old new (went_result moved)
unfolding asking
let_go_moved defaults was is callback back old mid new u (Ok v) h moved = record {
  opinions = default_opinions old;
  default = λ plain. refl;
  follows = (refl, record { mid = mid; answer = Accept; let_go = (h.grown, λ plain. ((h.default_body plain).1, refl)); is = moved });
  keeps = h.keeps;
}
let_go_moved defaults was is callback back old mid new u (Err v) h moved = record {
  opinions = default_opinions old;
  default = λ plain. refl;
  follows = inl (refl, inr (record { mid = mid; answer = Accept; let_go = (h.grown, λ plain. ((h.default_body plain).1, refl)); is = moved }));
  keeps = h.keeps;
}

pub let_go_call : {E : Type 0} (defaults : Type 0) (was is : HandlerAt) (callback : Callback) (back : List Move) (old mid new : SessionState) (u : Unit {0}) (moved : Result (Unit {0}) RanOut) (result : Result RowFlow (Stop E)) →
    result ≡ went_result moved → Calls {E = E} defaults callback (Ok tt) was is old mid (Ok u) → Does back mid new moved → FollowsOne {E = E} defaults was is (asking [] callback back) old new result
let_go_call {E = E} defaults was is callback back old mid new u moved result is_so h m =
    subst (λ (x : Result RowFlow (Stop E)). FollowsOne {E = E} defaults was is (asking [] callback back) old new x) (sym is_so) (let_go_moved {E = E} defaults was is callback back old mid new u moved h m)

-- ---- a row that makes no call

calls_nothing : (defaults : Type 0) (callback : Option Callback) (s : SessionState) → LetGo defaults callback s s Accept
calls_nothing defaults None s = (refl, refl)
calls_nothing defaults (Some callback) s = (grown_same s, λ plain. (refl, refl))

pub done_onto : (a b : List Move) (s : SessionState) → done (onto a b) s ≡ done b (done a s)
done_onto a [] s = refl
done_onto a (m ∷ b) s = done-append a (m ∷ b) s

handled_plain : (defaults : Type 0) (row : SessionRow) (old new : SessionState) → new ≡ done (all_moves row) old → Handled defaults row old new
handled_plain defaults row old new is = record {
  mid = done row.front old;
  answer = Accept;
  let_go = calls_nothing defaults row.asks (done row.front old);
  is = is ∙ done_onto row.front (row.back Accept) old;
}

-- some moves of two lists in sequence are some of the first, or all of the first and some of the second
behind_first : (m : Move) (a b : List Move) (s t : SessionState) → Fronts a (after m s) t ⊎ Fronts b (done a (after m s)) t → Fronts (m ∷ a) s t ⊎ Fronts b (done (m ∷ a) s) t
behind_first m a b s t (inl f) = inl (inr f)
behind_first m a b s t (inr f) = inr f

two_fronts : (a b : List Move) (s t : SessionState) → Fronts (a ++ b) s t → Fronts a s t ⊎ Fronts b (done a s) t
two_fronts [] b s t f = inr f
two_fronts (m ∷ a) b s t (inl same) = inl (inl same)
two_fronts (m ∷ a) b s t (inr f) = behind_first m a b s t (two_fronts a b (after m s) t f)

whole_front : (a : List Move) (s : SessionState) (t : SessionState) → Fronts a s t → Fronts a s t ⊎ Fronts [] (done a s) t
whole_front a s t f = inl f

onto_fronts : (a b : List Move) (s t : SessionState) → Fronts (onto a b) s t → Fronts a s t ⊎ Fronts b (done a s) t
onto_fronts a [] s t f = inl f
onto_fronts a (m ∷ b) s t f = two_fronts a (m ∷ b) s t f

cut_by : (defaults : Type 0) (row : SessionRow) (old new : SessionState) → Fronts row.front old new ⊎ Fronts (row.back Accept) (done row.front old) new → Cut defaults row old new
cut_by defaults row old new (inl f) = inl f
cut_by defaults row old new (inr f) = inr (record {
  mid = done row.front old;
  answer = Accept;
  let_go = calls_nothing defaults row.asks (done row.front old);
  is = f;
})

cut_plain : (defaults : Type 0) (row : SessionRow) (old new : SessionState) → Fronts (all_moves row) old new → Cut defaults row old new
cut_plain defaults row old new f = cut_by defaults row old new (onto_fronts row.front (row.back Accept) old new f)

plain_row_follows : (E : Type 0) (defaults : Type 0) (was is : HandlerAt) (row : SessionRow) (old new : SessionState) (r : Result RowFlow Error) →
    Follows row old new r → FollowsRow {E = E} defaults was is row old new (own_result r)
plain_row_follows E defaults was is row old new (Ok flows.Went) f = (f.0, handled_plain defaults row old new f.1)
plain_row_follows E defaults was is row old new (Ok (flows.Ended e)) f = (f.0, handled_plain defaults row old new f.1)
plain_row_follows E defaults was is row old new (Err e) (inl f) = inl (f.0, cut_plain defaults row old new f.1)
plain_row_follows E defaults was is row old new (Err e) (inr f) = inr (f.0, handled_plain defaults row old new f.1)

-- The handler is as it was before in all of these.
pub own_one : {E : Type 0} (defaults : Type 0) (h : HandlerAt) (row : SessionRow) (old new : SessionState) (r : Result RowFlow Error) (result : Result RowFlow (Stop E)) →
    result ≡ own_result r → Follows row old new r → FollowsOne {E = E} defaults h h row old new result
own_one {E = E} defaults h row old new r result is f = record {
  opinions = default_opinions old;
  default = λ plain. refl;
  follows = subst (λ (x : Result RowFlow (Stop E)). FollowsRow defaults h h row old new x) (sym is) (plain_row_follows E defaults h h row old new r f);
  keeps = unheard (calls_of row) h h (same_handler h);
}

pub own_with : {E : Type 0} (defaults : Type 0) (h : HandlerAt) (row : Opinions → SessionRow) (old new : SessionState) (r : Result RowFlow Error) (result : Result RowFlow (Stop E)) →
    result ≡ own_result r → Follows (row (default_opinions old)) old new r → FollowsWith {E = E} defaults h h row old new result
own_with {E = E} defaults h row old new r result is f = record {
  opinions = default_opinions old;
  default = λ plain. refl;
  follows = subst (λ (x : Result RowFlow (Stop E)). FollowsRow defaults h h (row (default_opinions old)) old new x) (sym is) (plain_row_follows E defaults h h (row (default_opinions old)) old new r f);
  keeps = unheard (calls_of (row (default_opinions old))) h h (same_handler h);
}

passed_follows : (row : SessionRow) (old new : SessionState) → row ≡ passed_over → new ≡ old → Follows row old new (Ok flows.Went)
passed_follows row old new is same = rw is (refl, same)

refused_follows : (row : SessionRow) (old new : SessionState) (e : Error) → row ≡ refused e → new ≡ old → Follows row old new (Err e)
refused_follows row old new e is same = rw is (inr (refl, same))

-- a row that does nothing, and one that is refused
pub passed_one : {E : Type 0} (defaults : Type 0) (h : HandlerAt) (row : SessionRow) (old new : SessionState) →
    row ≡ passed_over → new ≡ old → FollowsOne {E = E} defaults h h row old new (Ok flows.Went)
passed_one defaults h row old new is same = own_one defaults h row old new (Ok flows.Went) (Ok flows.Went) refl (passed_follows row old new is same)

pub refused_one : {E : Type 0} (defaults : Type 0) (h : HandlerAt) (row : SessionRow) (old new : SessionState) (e : Error) →
    row ≡ refused e → new ≡ old → FollowsOne {E = E} defaults h h row old new (Err (Own e))
refused_one defaults h row old new e is same = own_one defaults h row old new (Err e) (Err (Own e)) refl (refused_follows row old new e is same)

pub passed_with : {E : Type 0} (defaults : Type 0) (h : HandlerAt) (row : Opinions → SessionRow) (old new : SessionState) →
    row (default_opinions old) ≡ passed_over → new ≡ old → FollowsWith {E = E} defaults h h row old new (Ok flows.Went)
passed_with defaults h row old new is same = own_with defaults h row old new (Ok flows.Went) (Ok flows.Went) refl (passed_follows (row (default_opinions old)) old new is same)

pub refused_with : {E : Type 0} (defaults : Type 0) (h : HandlerAt) (row : Opinions → SessionRow) (old new : SessionState) (e : Error) →
    row (default_opinions old) ≡ refused e → new ≡ old → FollowsWith {E = E} defaults h h row old new (Err (Own e))
refused_with defaults h row old new e is same = own_with defaults h row old new (Err e) (Err (Own e)) refl (refused_follows (row (default_opinions old)) old new e is same)

-- memory ran out before any move was done
none_done : (moves : List Move) (s : SessionState) → Fronts moves s s
none_done [] s = refl
none_done (m ∷ moves) s = inl refl

nothing_done : (moves : List Move) (old new : SessionState) → new ≡ old → Fronts moves old new
nothing_done moves old new same = subst (Fronts moves old) (sym same) (none_done moves old)

pub ran_out_one : {E : Type 0} (defaults : Type 0) (h : HandlerAt) (row : SessionRow) (old new : SessionState) →
    new ≡ old → FollowsOne {E = E} defaults h h row old new (Err (Own NoMemory))
ran_out_one defaults h row old new same = record { opinions = default_opinions old; default = λ plain. refl; follows = inl (refl, inl (nothing_done row.front old new same)); keeps = unheard (calls_of row) h h (same_handler h) }

pub ran_out_with : {E : Type 0} (defaults : Type 0) (h : HandlerAt) (row : Opinions → SessionRow) (old new : SessionState) →
    new ≡ old → FollowsWith {E = E} defaults h h row old new (Err (Own NoMemory))
ran_out_with defaults h row old new same = record {
  opinions = default_opinions old;
  default = λ plain. refl;
  follows = inl (refl, inl (nothing_done (row (default_opinions old)).front old new same));
  keeps = unheard (calls_of (row (default_opinions old))) h h (same_handler h);
}

-- ---- a move before a row

pub front_row : {E : Type 0} (defaults : Type 0) (was is : HandlerAt) (m : Move) (row : SessionRow) (old new : SessionState) (r : Result RowFlow (Stop E)) →
    FollowsRow defaults was is row (after m old) new r → FollowsRow defaults was is (behind_moves (m ∷ []) row) old new r
front_row defaults was is m row old new (Ok flows.Went) f = (f.0, record { mid = f.1.mid; answer = f.1.answer; let_go = f.1.let_go; is = f.1.is })
front_row defaults was is m row old new (Ok (flows.Ended e)) f = (f.0, record { mid = f.1.mid; answer = f.1.answer; let_go = f.1.let_go; is = f.1.is })
front_row defaults was is m row old new (Err (Own e)) (inl (memory, inl f)) = inl (memory, inl (inr f))
front_row defaults was is m row old new (Err (Own e)) (inl (memory, inr f)) = inl (memory, inr (record { mid = f.mid; answer = f.answer; let_go = f.let_go; is = f.is }))
front_row defaults was is m row old new (Err (Own e)) (inr f) = inr (f.0, record { mid = f.1.mid; answer = f.1.answer; let_go = f.1.let_go; is = f.1.is })
front_row defaults was is m row old new (Err (Handler e)) f = record { asked = f.asked; grown = f.grown; rose = f.rose; changed = f.changed }

pub front_one : {E : Type 0} (defaults : Type 0) (was is : HandlerAt) (m : Move) (row : SessionRow) (old new : SessionState) (r : Result RowFlow (Stop E)) →
    FollowsOne defaults was is row (after m old) new r → FollowsOne defaults was is (behind_moves (m ∷ []) row) old new r
front_one defaults was is m row old new r f = record { opinions = default_opinions old; default = λ plain. refl; follows = front_row defaults was is m row old new r f.follows; keeps = f.keeps }

-- the same of a call that follows a move
pub asked_front : {E : Type 0} (defaults : Type 0) (was is : HandlerAt) (m : Move) (callback : Callback) (back : List Move) (old new : SessionState) (r : Result RowFlow (Stop E)) →
    FollowsOne defaults was is (asking [] callback back) (after m old) new r → FollowsOne defaults was is (asking (m ∷ []) callback back) old new r
unfolding asking
asked_front defaults was is m callback back old new r f = front_one defaults was is m (asking [] callback back) old new r f

-- a report on a channel, after a move
pub reports_front : {E : Type 0} (defaults : Type 0) (was is : HandlerAt) (m : Move) (id : ℕ) (output told : ChannelRecord) (back : List Move) (old new : SessionState) (r : Result RowFlow (Stop E)) →
    output ≡ told → FollowsOne defaults was is (reports [] id told back) (after m old) new r → FollowsOne defaults was is (reports (m ∷ []) id output back) old new r
unfolding asking
reports_front defaults was is m id output told back old new r same f =
    subst (λ (x : ChannelRecord). FollowsOne defaults was is (reports (m ∷ []) id x back) old new r) (sym same)
    (front_one defaults was is m (reports [] id told back) old new r f)

-- a call that was made before
pub called_before : {E : Type 0} {calls : List Callback} (defaults : Type 0) (was mid is : HandlerAt) (row : SessionRow) (old new : SessionState) (r : Result RowFlow (Stop E)) →
    HandlerHeard calls was mid → FollowsRow defaults mid is row old new r → FollowsRow defaults was is row old new r
called_before defaults was mid is row old new (Ok flows.Went) keeps f = f
called_before defaults was mid is row old new (Ok (flows.Ended e)) keeps f = f
called_before defaults was mid is row old new (Err (Own e)) keeps f = f
called_before defaults was mid is row old new (Err (Handler e)) keeps f = record { asked = f.asked; grown = f.grown; rose = rose_later was.refusals mid.refusals is.refusals keeps.later f.rose; changed = f.changed }

-- a row whose call isn't lent the session
pub opined_row : {E : Type 0} (defaults : Type 0) (was is : HandlerAt) (call : Option Callback) (row : SessionRow) (old new : SessionState) (r : Result RowFlow (Stop E)) →
    FollowsRow defaults was is row old new r → FollowsRow defaults was is (opining call row) old new r
opined_row defaults was is call row old new (Ok flows.Went) f = (f.0, record { mid = f.1.mid; answer = f.1.answer; let_go = f.1.let_go; is = f.1.is })
opined_row defaults was is call row old new (Ok (flows.Ended e)) f = (f.0, record { mid = f.1.mid; answer = f.1.answer; let_go = f.1.let_go; is = f.1.is })
opined_row defaults was is call row old new (Err (Own e)) (inl (memory, inl f)) = inl (memory, inl f)
opined_row defaults was is call row old new (Err (Own e)) (inl (memory, inr f)) = inl (memory, inr (record { mid = f.mid; answer = f.answer; let_go = f.let_go; is = f.is }))
opined_row defaults was is call row old new (Err (Own e)) (inr f) = inr (f.0, record { mid = f.1.mid; answer = f.1.answer; let_go = f.1.let_go; is = f.1.is })
opined_row defaults was is call row old new (Err (Handler e)) f = record { asked = f.asked; grown = f.grown; rose = f.rose; changed = f.changed }

-- a body that returns the default
pub opines_default : {T : Type 0} (defaults : Type 0) (call : Callback) (default : T) (h : HandlerAt) → Opines defaults call default h h default
opines_default defaults call default h = record { keeps = unheard (call ∷ []) h h (same_handler h); default_body = λ plain. refl }

-- ---- our window is refilled

retarget_row : {E : Type 0} (defaults : Type 0) (was is : HandlerAt) (positive : Bool) (id len : ℕ) (output : ChannelRecord) (window : ℕ) (old new : SessionState) (r : Result RowFlow (Stop E)) →
    FollowsRow defaults was is (reports [] id output []) (done (if positive then Targets window ∷ [] else []) (after (Receives id len) old)) new r →
    FollowsRow defaults was is (reports (Receives id len ∷ (if positive then Targets window ∷ [] else [])) id output []) old new r
unfolding asking
retarget_row defaults was is true id len output window old new r f =
    front_row defaults was is (Receives id len) (reports (Targets window ∷ []) id output []) old new r
    (front_row defaults was is (Targets window) (reports [] id output []) (after (Receives id len) old) new r f)
retarget_row defaults was is false id len output window old new r f =
    front_row defaults was is (Receives id len) (reports [] id output []) old new r f

pub kept_window : {E : Type 0} (defaults : Type 0) (was is : HandlerAt) (id len : ℕ) (output : ChannelRecord) (old new : SessionState) (r : Result RowFlow (Stop E)) →
    adjusted_at id len (own_window old) old.table ≡ false → FollowsOne defaults was is (reports [] id output []) (after (Receives id len) old) new r →
    FollowsWith defaults was is (λ o. bytes_row o old id len output) old new r
unfolding asking
kept_window defaults was is id len output old new r kept f = record {
  opinions = default_opinions old;
  default = λ plain. refl;
  follows = rw kept (opined_row defaults was is None (reports (Receives id len ∷ []) id output []) old new r (front_row defaults was is (Receives id len) (reports [] id output []) old new r f.follows));
  keeps = rw kept f.keeps;
}

pub brought_back : {E : Type 0} (defaults : Type 0) (was mid is : HandlerAt) (id len : ℕ) (output : ChannelRecord) (old last new : SessionState) (r : Result RowFlow (Stop E)) →
    adjusted_at id len (own_window old) old.table ≡ true → Retargets defaults id old.window_target was mid (after (Receives id len) old) last →
    FollowsOne defaults mid is (reports [] id output []) last new r →
    FollowsWith defaults was is (λ o. bytes_row o old id len output) old new r
unfolding asking
brought_back defaults was mid is id len output old last new r back asked f =
    let follows = subst (λ (s : SessionState). FollowsRow defaults mid is (reports [] id output []) s new r) asked.left f.follows in
    record {
      opinions = record { takes_unknown = false; window_target = asked.window };
      default = λ plain. ap (λ (w : ℕ). record { takes_unknown = false; window_target = w }) (asked.opines.default_body plain);
      follows = rw back (opined_row defaults was is (Some (WindowRefilled id old.window_target)) (reports (Receives id len ∷ (if nat_lt 0 asked.window then Targets asked.window ∷ [] else [])) id output []) old new r
          (retarget_row defaults was is (nat_lt 0 asked.window) id len output asked.window old new r (called_before defaults was mid is (reports [] id output []) _ new r asked.opines.keeps follows)));
      keeps = rw back (keeps_on was mid is asked.opines.keeps f.keeps);
    }

-- ---- opens

pub confirmed_one : {E : Type 0} (defaults : Type 0) (was is : HandlerAt) (ticket : Option (Option Ticket)) (c : Confirmation) (old new : SessionState) (r : Result RowFlow (Stop E)) →
    is_some ticket ≡ true →
    FollowsOne defaults was is (reports [] c.recipient (happened.Open c.sender.max_packet_size c.sender.window_size) (Grants c.recipient 0 ∷ [])) (after (Confirms c) old) new r →
    FollowsOne defaults was is (confirmed_row ticket c) old new r
unfolding asking
confirmed_one defaults was is None c old new r waits f = absurd cc
confirmed_one defaults was is (Some ticket) c old new r waits f =
    front_one defaults was is (Confirms c) (reports [] c.recipient (happened.Open c.sender.max_packet_size c.sender.window_size) (Grants c.recipient 0 ∷ [])) old new r f

pub failed_one : {E : Type 0} (defaults : Type 0) (was is : HandlerAt) (ticket : Option (Option Ticket)) (x : Refusal) (output : ChannelRecord) (old new : SessionState) (r : Result RowFlow (Stop E)) →
    is_some ticket ≡ true → output ≡ happened.OpenFailure x.reason x.description x.language →
    FollowsOne defaults was is (reports [] x.id.0 output []) (after (Fails x.id.0 x.reason) old) new r →
    FollowsOne defaults was is (failed_row ticket x) old new r
unfolding asking
failed_one defaults was is None x output old new r waits same f = absurd cc
failed_one {E = E} defaults was is (Some ticket) x output old new r waits same f =
    front_one defaults was is (Fails x.id.0 x.reason) (reports [] x.id.0 (happened.OpenFailure x.reason x.description x.language) []) old new r (subst (λ (z : ChannelRecord). FollowsOne {E = E} defaults was is (reports [] x.id.0 z []) (after (Fails x.id.0 x.reason) old) new r) same f)

-- no open of ours waits under the number
pub none_confirmed : {E : Type 0} (defaults : Type 0) (h : HandlerAt) (ticket : Option (Option Ticket)) (c : Confirmation) (old new : SessionState) →
    is_some ticket ≡ false → new ≡ old → FollowsOne {E = E} defaults h h (confirmed_row ticket c) old new (Err (Own Inconsistent))
none_confirmed defaults h None c old new none same = refused_one defaults h (confirmed_row None c) old new Inconsistent refl same
none_confirmed defaults h (Some ticket) c old new none same = absurd cc

pub none_failed : {E : Type 0} (defaults : Type 0) (h : HandlerAt) (ticket : Option (Option Ticket)) (x : Refusal) (old new : SessionState) →
    is_some ticket ≡ false → new ≡ old → FollowsOne {E = E} defaults h h (failed_row ticket x) old new (Ok flows.Went)
none_failed defaults h None x old new none same = passed_one defaults h (failed_row None x) old new refl same
none_failed defaults h (Some ticket) x old new none same = absurd cc

pub refused_open : {E : Type 0} (defaults : Type 0) (default : OpenAnswer) (was is : HandlerAt) (id : ℕ) (opened : ServerOpen) (old new : SessionState) (stop : Stop E) →
    Calls defaults (ServerOpened id opened) (Ok default) was is old new (Err stop) → FollowsOne defaults was is (served id opened) old new (Err stop)
unfolding served
refused_open defaults default was is id opened old new (Handler e) h = record {
  opinions = default_opinions old;
  default = λ plain. refl;
  follows = record { asked = refl; grown = h.grown; rose = h.cause; changed = λ plain. no_default default e (h.default_body plain).0 };
  keeps = h.keeps;
}
refused_open defaults default was is id opened old new (Own e) (memory, same, still) = record {
  opinions = default_opinions old;
  default = λ plain. refl;
  follows = inl (memory, inl same);
  keeps = subst (λ (h : HandlerAt). HandlerHeard (ServerOpened id opened ∷ []) was h) (sym still) (unheard (ServerOpened id opened ∷ []) was was (same_handler was));
}

same_answer : {E : Type 0} (r : Result OpenAnswer E) (a b : OpenAnswer) → r ≡ Ok a → r ≡ Ok b → a ≡ b
same_answer r a b one other = cc

accepts_by : {E : Type 0} (defaults : Type 0) (r : Result OpenAnswer E) (default answer : OpenAnswer) → Accepts defaults default → r ≡ Ok answer → (defaults → r ≡ Ok default) → defaults → answer ≡ Accept
accepts_by defaults r default answer (inl accepts) is same = λ plain. same_answer r answer default is (same plain) ∙ accepts
accepts_by defaults r default answer (inr never) is same = λ plain. absurd (never plain)

let_go_served : {E : Type 0} (defaults : Type 0) (default answer : OpenAnswer) (was is : HandlerAt) (id : ℕ) (opened : ServerOpen) (old mid new : SessionState) (moved : Result (Unit {0}) RanOut) →
    Accepts defaults default → Calls {E = E} defaults (ServerOpened id opened) (Ok default) was is old mid (Ok answer) →
    Does (Tells (ServerOpenedRecord (record { 0 = id }) opened) ∷ settled id answer) mid new moved → FollowsOne {E = E} defaults was is (served id opened) old new (went_result moved)
unfolding served
let_go_served {E = E} defaults default answer was is id opened old mid new (Ok v) accepts h moved = record {
  opinions = default_opinions old;
  default = λ plain. refl;
  follows = (refl, record { mid = mid; answer = answer; let_go = (h.grown, λ plain. ((h.default_body plain).1, accepts_by {E = E} defaults (Ok answer) default answer accepts refl (λ p. (h.default_body p).0) plain)); is = moved });
  keeps = h.keeps;
}
let_go_served {E = E} defaults default answer was is id opened old mid new (Err v) accepts h moved = record {
  opinions = default_opinions old;
  default = λ plain. refl;
  follows = inl (refl, inr (record { mid = mid; answer = answer; let_go = (h.grown, λ plain. ((h.default_body plain).1, accepts_by {E = E} defaults (Ok answer) default answer accepts refl (λ p. (h.default_body p).0) plain)); is = moved }));
  keeps = h.keeps;
}

pub let_go_open : {E : Type 0} (defaults : Type 0) (default answer : OpenAnswer) (was is : HandlerAt) (id : ℕ) (opened : ServerOpen) (old mid new : SessionState) (moved : Result (Unit {0}) RanOut) (result : Result RowFlow (Stop E)) →
    result ≡ went_result moved → Accepts defaults default → Calls {E = E} defaults (ServerOpened id opened) (Ok default) was is old mid (Ok answer) →
    Does (Tells (ServerOpenedRecord (record { 0 = id }) opened) ∷ settled id answer) mid new moved → FollowsOne {E = E} defaults was is (served id opened) old new result
let_go_open {E = E} defaults default answer was is id opened old mid new moved result is_so accepts h m =
    subst (λ (x : Result RowFlow (Stop E)). FollowsOne {E = E} defaults was is (served id opened) old new x) (sym is_so) (let_go_served {E = E} defaults default answer was is id opened old mid new moved accepts h m)

known_row : (takes : Bool) (sender : Sender) (id : ℕ) (kind : List ℕ) (opened : ServerOpen) → is_unknown opened ≡ false → served_row takes sender id kind opened ≡ serving_row sender id opened
known_row takes sender id kind opens.Unknown known = absurd cc
known_row takes sender id kind opens.Session known = refl
known_row takes sender id kind (opens.DirectTcpIp a b c d) known = refl
known_row takes sender id kind (opens.DirectStreamLocal a) known = refl
known_row takes sender id kind (opens.X11 a b) known = refl
known_row takes sender id kind (opens.ForwardedTcpIp a b c d) known = refl
known_row takes sender id kind (opens.ForwardedStreamLocal a) known = refl
known_row takes sender id kind opens.AgentForward known = refl

pub known_open : {E : Type 0} (defaults : Type 0) (was is : HandlerAt) (number : Option ℕ) (sender : Sender) (id : ℕ) (kind : List ℕ) (opened : ServerOpen) (old new : SessionState) (r : Result RowFlow (Stop E)) →
    number ≡ Some id → is_unknown opened ≡ false → FollowsOne defaults was is (served id opened) (after (Reserves sender) old) new r →
    FollowsWith defaults was is (λ o. numbered_open_row o number sender kind opened) old new r
unfolding served
known_open defaults was is number sender id kind opened old new r numbered known f = record {
  opinions = default_opinions old;
  default = λ plain. refl;
  follows = rw numbered (subst (λ (row : SessionRow). FollowsRow defaults was is row old new r) (sym (known_row false sender id kind opened known)) (front_row defaults was is (Reserves sender) (served id opened) old new r f.follows));
  keeps = rw numbered (subst (λ (row : SessionRow). HandlerHeard (calls_of row) was is) (sym (known_row false sender id kind opened known)) f.keeps);
}

-- a handler that keeps its defaults accepts an open of a known type
pub known_accepts : (defaults : Type 0) (opened : ServerOpen) → is_unknown opened ≡ false → Accepts defaults (default_answer opened)
known_accepts defaults opens.Unknown known = absurd cc
known_accepts defaults opens.Session known = inl refl
known_accepts defaults (opens.DirectTcpIp a b c d) known = inl refl
known_accepts defaults (opens.DirectStreamLocal a) known = inl refl
known_accepts defaults (opens.X11 a b) known = inl refl
known_accepts defaults (opens.ForwardedTcpIp a b c d) known = inl refl
known_accepts defaults (opens.ForwardedStreamLocal a) known = inl refl
known_accepts defaults opens.AgentForward known = inl refl

not_taken : true ≡ false → ⊥
not_taken same = absurd cc

pub taken_open : {E : Type 0} (defaults : Type 0) (was mid is : HandlerAt) (number : Option ℕ) (sender : Sender) (id : ℕ) (kind : List ℕ) (old new : SessionState) (r : Result RowFlow (Stop E)) →
    number ≡ Some id → Opines defaults (UnknownOffered id kind) false was mid true → FollowsOne defaults mid is (served id opens.Unknown) (after (Reserves sender) old) new r →
    FollowsWith defaults was is (λ o. numbered_open_row o number sender kind opens.Unknown) old new r
unfolding served
taken_open defaults was mid is number sender id kind old new r numbered opines f = record {
  opinions = record { takes_unknown = true; window_target = old.window_target };
  default = λ plain. absurd (not_taken (opines.default_body plain));
  follows = rw numbered (opined_row defaults was is (Some (UnknownOffered id kind)) (serving_row sender id opens.Unknown) old new r
      (front_row defaults was is (Reserves sender) (served id opens.Unknown) old new r (called_before defaults was mid is (served id opens.Unknown) _ new r opines.keeps f.follows)));
  keeps = rw numbered (keeps_on was mid is opines.keeps f.keeps);
}

-- a handler that takes an unknown type doesn't keep its defaults
pub taken_accepts : (defaults : Type 0) (call : Callback) (was mid : HandlerAt) (default : OpenAnswer) → Opines defaults call false was mid true → Accepts defaults default
taken_accepts defaults call was mid default opines = inr (λ plain. not_taken (opines.default_body plain))

-- an open of an unknown type is refused, since the handler doesn't take it
abbrev refused_moves : Sender → ℕ → List Move
refused_moves sender id = Reserves sender ∷ Rejects id UnknownChannelType ∷ []

not_taken_by : {E : Type 0} (defaults : Type 0) (was is : HandlerAt) (number : Option ℕ) (sender : Sender) (id : ℕ) (kind : List ℕ) (old new : SessionState) (r : Result RowFlow Error) →
    number ≡ Some id → Opines defaults (UnknownOffered id kind) false was is false → Follows (plain_row (refused_moves sender id)) old new r →
    FollowsWith {E = E} defaults was is (λ o. numbered_open_row o number sender kind opens.Unknown) old new (own_result r)
not_taken_by {E = E} defaults was is number sender id kind old new r numbered opines f = record {
  opinions = default_opinions old;
  default = λ plain. refl;
  follows = rw numbered (opined_row defaults was is (Some (UnknownOffered id kind)) (plain_row (refused_moves sender id)) old new (own_result r)
      (plain_row_follows E defaults was is (plain_row (refused_moves sender id)) old new r f));
  keeps = rw numbered opines.keeps;
}

pub not_taken_open : {E : Type 0} (defaults : Type 0) (was is : HandlerAt) (number : Option ℕ) (sender : Sender) (id : ℕ) (kind : List ℕ) (old new : SessionState) →
    number ≡ Some id → Opines defaults (UnknownOffered id kind) false was is false → new ≡ after (Rejects id UnknownChannelType) (after (Reserves sender) old) →
    FollowsWith {E = E} defaults was is (λ o. numbered_open_row o number sender kind opens.Unknown) old new (Ok flows.Went)
not_taken_open {E = E} defaults was is number sender id kind old new numbered opines left =
    not_taken_by {E = E} defaults was is number sender id kind old new (Ok flows.Went) numbered opines (refl, left)

pub not_taken_ran_out : {E : Type 0} (defaults : Type 0) (was is : HandlerAt) (number : Option ℕ) (sender : Sender) (id : ℕ) (kind : List ℕ) (old new : SessionState) (result : Result RowFlow (Stop E)) →
    IsErrAnd result (λ e. e ≡ Own NoMemory) → number ≡ Some id → Opines defaults (UnknownOffered id kind) false was is false → new ≡ after (Reserves sender) old →
    FollowsWith {E = E} defaults was is (λ o. numbered_open_row o number sender kind opens.Unknown) old new result
not_taken_ran_out defaults was is number sender id kind old new (Ok flow) never numbered opines left = absurd never
not_taken_ran_out {E = E} defaults was is number sender id kind old new (Err e) same numbered opines left =
    subst (λ (x : Stop E). FollowsWith {E = E} defaults was is (λ o. numbered_open_row o number sender kind opens.Unknown) old new (Err x)) (sym same)
    (not_taken_by {E = E} defaults was is number sender id kind old new (Err NoMemory) numbered opines (inl (refl, inr (inl left))))

-- ---- a row that is equal to another

pub by_row : {E : Type 0} (defaults : Type 0) (was is : HandlerAt) (row told : SessionRow) (old new : SessionState) (r : Result RowFlow (Stop E)) →
    FollowsOne defaults was is told old new r → row ≡ told → FollowsOne defaults was is row old new r
by_row {E = E} defaults was is row told old new r f same = subst (λ (x : SessionRow). FollowsOne {E = E} defaults was is x old new r) (sym same) f
