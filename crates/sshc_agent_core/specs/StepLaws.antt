-- Laws of a step of the agent, each by cases on the six things that a step does (StepShape). They name no row.
use Rattle.std.proofs.Common.{◌≡◌, ◌⊎◌, ℕ, ◌<◌, Bool, true, false, cond, List, [], ◌∷◌, drop, Option, Some, None, refl, sym, ap, subst, ◌∙◌, inl, inr, arith}
use Rattle.std.specs.Prelude.{All, ◌==◌, nat_lt}
use Rattle.std.specs.Ordering.{nat_cmp, is_eq, match_ordering}
use Rattle.std.specs.declared.cmp.Ordering.{Ordering}
use Rattle.std.specs.declared.cmp.Ordering.TheVariants.{Less, Equal, Greater}
use Rattle.std.specs.Cmp.{nat_cmp_is}
use Rattle.std.specs.BTreeMap.{insert_entry, is_at}
use Rattle.std.specs.Map.{remove_entry}
use Rattle.std.proofs.lemmas.Bool.{eqb-false, eqb-true, ltb-false, ltb-true}
use Rattle.std.proofs.lemmas.List.Elements.{All-nil, All-cons}
use Rattle.sshc_wire.specs.Wire.{string_text, u32_text}
use Rattle.sshc_key.specs.Asking.{SignRequest, call_of}
use Rattle.sshc_key.specs.AskingLaws.{none_first}
use Rattle.sshc_key.specs.Signers.{SignCall}
use Rattle.sshc_agent_core.specs.declared.connections.Standing.{Standing}
use Rattle.sshc_agent_core.specs.declared.connections.Standing.TheVariants as standings
use Rattle.sshc_agent_core.specs.declared.entry.Entry.{Entry}
use Rattle.sshc_agent_core.specs.declared.input.AgentInput.{AgentInput}
use Rattle.sshc_agent_core.specs.declared.input.AgentOutput.{AgentOutput}
use Rattle.sshc_agent_core.specs.declared.input.AgentOutput.TheVariants as outputs
use Rattle.sshc_agent_core.specs.declared.input.Cause.TheVariants as causes
use Rattle.sshc_agent_core.specs.AgentHistory.{IsEntry, Leads, IsLockedOutput, IsPermitted, IsTold, IsUnlock, IsUnlockRequest, IsUnlocked, KeepsLock, KeepsOthers, KeepsRefused, StaysLocked, request_of, signature_at, signature_in, signature_of, stands_in, success}
use Rattle.sshc_agent_core.specs.AgentList.{AgentList, aged, forgotten, standing, starved}
use Rattle.sshc_agent_core.specs.AgentTable.{Shows, Steps, agent_row}
use Rattle.sshc_agent_core.specs.Connections.{is_new, standing_of, with_standing, without}
use Rattle.sshc_agent_core.specs.ShapeLaws.{row_made, step_does}
use Rattle.sshc_agent_core.specs.StepShape.{Changes, IsEnd, IsPermittedRequest, Made, Says, StepDoes, begun}
use Rattle.sshc_agent_core.specs.Turn.{frame}

-- what follows a frame's length
pub behind_length : (body : List ℕ) → drop 4 (string_text body) ≡ body
unfolding string_text u32_text
behind_length body = refl

-- ---- keys, lock and clock where only time passes

pub record Passes (now : ℕ) (before after : AgentList) : Type 0 where
  pub passphrase : after.passphrase ≡ before.passphrase
  pub keys : after.keys ≡ (aged now before).keys
  pub latest : after.latest ≡ (aged now before).latest

begun_passes : (now conn : ℕ) (before after : AgentList) → after ≡ begun now conn before → Passes now before after
begun_passes now conn before after is = record { passphrase = ap (λ (l : AgentList). l.passphrase) is; keys = ap (λ (l : AgentList). l.keys) is; latest = ap (λ (l : AgentList). l.latest) is }

set_passes : (now conn : ℕ) (before after : AgentList) (stands : _) → after ≡ standing conn stands (begun now conn before) → Passes now before after
set_passes now conn before after stands is = record { passphrase = ap (λ (l : AgentList). l.passphrase) is; keys = ap (λ (l : AgentList). l.keys) is; latest = ap (λ (l : AgentList). l.latest) is }

starved_by : (b : Bool) (now conn : ℕ) (before after : AgentList) → after ≡ cond b (aged now before) (standing conn standings.Closed (aged now before)) → Passes now before after
starved_by true now conn before after is = record { passphrase = ap (λ (l : AgentList). l.passphrase) is; keys = ap (λ (l : AgentList). l.keys) is; latest = ap (λ (l : AgentList). l.latest) is }
starved_by false now conn before after is = record { passphrase = ap (λ (l : AgentList). l.passphrase) is; keys = ap (λ (l : AgentList). l.keys) is; latest = ap (λ (l : AgentList). l.latest) is }

starved_passes : (now conn : ℕ) (before after : AgentList) → after ≡ starved now conn before → Passes now before after
starved_passes now conn before after is = starved_by (is_new before.conns conn) now conn before after is

-- ---- a refused request changes nothing

says_keeps : (l : AgentList) (whole : List ℕ) (next : AgentList) (output : AgentOutput) → Says l whole next output → (output ≡ success → ⊥) → (next.keys ≡ l.keys) × (next.passphrase ≡ l.passphrase)
says_keeps l whole next output (Says.fails is said) other = (ap (λ (x : AgentList). x.keys) is, ap (λ (x : AgentList). x.passphrase) is)
says_keeps l whole next output (Says.lists unlocked is said) other = (ap (λ (x : AgentList). x.keys) is, ap (λ (x : AgentList). x.passphrase) is)
says_keeps l whole next output (Says.closes is said) other = (ap (λ (x : AgentList). x.keys) is, ap (λ (x : AgentList). x.passphrase) is)
says_keeps l whole next output (Says.asks_request message is said) other = (ap (λ (x : AgentList). x.keys) is, ap (λ (x : AgentList). x.passphrase) is)
says_keeps l whole next output (Says.asks_key blob key unlocked there is said) other = (ap (λ (x : AgentList). x.keys) is, ap (λ (x : AgentList). x.passphrase) is)
says_keeps l whole next output (Says.changes change said) other = absurd (other said)

does_keep : (now conn : ℕ) (input : AgentInput) (before after : AgentList) (gained : List SignCall) (output : AgentOutput) → Made now conn input before after gained output → KeepsRefused now before after output
does_keep now conn input before after gained output (Made.passed none is said) other = let p = begun_passes now conn before after is in (p.keys, p.passphrase)
does_keep now conn input before after gained output (Made.ended none is said) other = let p = set_passes now conn before after _ is in (p.keys, p.passphrase)
does_keep now conn input before after gained output (Made.answered none whole next stands request says is) other =
    let kept = says_keeps (begun now conn before) whole next output says other in
    (ap (λ (l : AgentList). l.keys) is ∙ kept.0, ap (λ (l : AgentList). l.passphrase) is ∙ kept.1)
does_keep now conn input before after gained output (Made.signed q signature one may is said) other = let p = set_passes now conn before after _ is in (p.keys, p.passphrase)
does_keep now conn input before after gained output (Made.refused q one may is said) other = let p = set_passes now conn before after _ is in (p.keys, p.passphrase)

-- only an acknowledged request changes keys or passphrase, except that keys expire
pub step_keeps : (now conn : ℕ) (input : AgentInput) (before after : AgentList) (gained : List SignCall) (output : AgentOutput) → Steps now conn input before after gained output → KeepsRefused now before after output
step_keeps now conn input before after gained output steps = by (step_does now conn input before after gained output steps)
  where
    by : StepDoes now conn input before after gained output → KeepsRefused now before after output
    by (StepDoes.made made) = does_keep now conn input before after gained output made
    by (StepDoes.starves cut is said) = λ other. let p = starved_passes now conn before after is in (p.keys, p.passphrase)

-- ---- what a signature needs

called_permit : (now conn : ℕ) (input : AgentInput) (before : AgentList) (call : SignCall) (calls : List SignCall) (q : SignRequest) (answer : Option (List ℕ)) → call ∷ calls ≡ call_of q answer ∷ [] → IsPermittedRequest now conn input before q
    → IsPermitted now conn input before call.by call.key
called_permit now conn input before call calls q answer one may =
    let same : call ≡ call_of q answer = first_is call (call_of q answer) calls one in
    subst (λ (c : SignCall). IsPermitted now conn input before c.by c.key) (sym same) may
  where
    first_is : (a b : SignCall) (more : List SignCall) → a ∷ more ≡ b ∷ [] → a ≡ b
    first_is a b more e = cc

none_called : (call : SignCall) (calls gained : List SignCall) → gained ≡ call ∷ calls → gained ≡ [] → ⊥
none_called call calls gained is none = let clash : call ∷ calls ≡ [] = sym is ∙ none in cc

does_permit : (now conn : ℕ) (input : AgentInput) (before after : AgentList) (gained : List SignCall) (output : AgentOutput) (call : SignCall) (calls : List SignCall) → Made now conn input before after gained output → gained ≡ call ∷ calls
    → IsPermitted now conn input before call.by call.key
does_permit now conn input before after gained output call calls (Made.passed none is said) some = absurd (none_called call calls gained some none)
does_permit now conn input before after gained output call calls (Made.ended none is said) some = absurd (none_called call calls gained some none)
does_permit now conn input before after gained output call calls (Made.answered none whole next stands request says is) some = absurd (none_called call calls gained some none)
does_permit now conn input before after gained output call calls (Made.signed q signature one may is said) some = called_permit now conn input before call calls q (Some signature) (sym some ∙ one) may
does_permit now conn input before after gained output call calls (Made.refused q one may is said) some = called_permit now conn input before call calls q None (sym some ∙ one) may

-- each signature is by a request of type 13 to an unlocked agent, by a key that is held and hasn't expired, and that is
-- confirmed if it requires it
pub step_permits : (now conn : ℕ) (input : AgentInput) (before after : AgentList) (gained : List SignCall) (output : AgentOutput) (call : SignCall) (calls : List SignCall) → Steps now conn input before after gained output → gained ≡ call ∷ calls
    → IsPermitted now conn input before call.by call.key
step_permits now conn input before after gained output call calls steps some = by (step_does now conn input before after gained output steps)
  where
    by : StepDoes now conn input before after gained output → IsPermitted now conn input before call.by call.key
    by (StepDoes.made made) = does_permit now conn input before after gained output call calls made some
    by (StepDoes.starves (inl none) is said) = absurd (none_called call calls gained some none)
    by (StepDoes.starves (inr (q, answer, one, may)) is said) = called_permit now conn input before call calls q answer (sym some ∙ one) may

-- ---- a locked agent

end_locked : (output : AgentOutput) → IsEnd output → IsLockedOutput output
end_locked (outputs.Answer whole) never = absurd never
end_locked (outputs.AskRequest message) never = tt
end_locked (outputs.AskKey blob) never = tt
end_locked outputs.Nothing ends = tt
end_locked (outputs.Closed cause) ends = tt

not_both : (o : Option (List ℕ)) (p : List ℕ) → o ≡ Some p → o ≡ None → ⊥
not_both o p some none = let clash : Some p ≡ None = sym some ∙ none in cc

-- a row's part on a locked agent
abbrev Locked : List ℕ → List ℕ → AgentList → AgentList → AgentOutput → Type 0
Locked p whole l next output = ((next ≡ l) × IsLockedOutput output) ⊎ ((next ≡ record l { passphrase = None }) × (output ≡ success) × IsUnlock p whole)

change_locked : (l : AgentList) (whole : List ℕ) (next : AgentList) (output : AgentOutput) (p : List ℕ) → l.passphrase ≡ Some p → Changes l whole next → output ≡ success → Locked p whole l next output
change_locked l whole next output p lock (Changes.keyed keys unlocked other is) said = absurd (not_both l.passphrase p lock unlocked)
change_locked l whole next output p lock (Changes.locks word unlocked asked is) said = absurd (not_both l.passphrase p lock unlocked)
change_locked l whole next output p lock (Changes.unlocks word own asked is) said =
    inr (is, said, subst (λ (w : List ℕ). IsUnlock w whole) (word_is word p l.passphrase own lock) asked)
  where
    word_is : (a b : List ℕ) (o : Option (List ℕ)) → o ≡ Some a → o ≡ Some b → a ≡ b
    word_is a b o e f = let g : Some a ≡ Some b = sym e ∙ f in cc

says_locked : (l : AgentList) (whole : List ℕ) (next : AgentList) (output : AgentOutput) (p : List ℕ) → l.passphrase ≡ Some p → Says l whole next output → Locked p whole l next output
says_locked l whole next output p lock (Says.fails is said) = inl (is, subst IsLockedOutput (sym said) refl)
says_locked l whole next output p lock (Says.lists unlocked is said) = absurd (not_both l.passphrase p lock unlocked)
says_locked l whole next output p lock (Says.closes is said) = inl (is, subst IsLockedOutput (sym said) tt)
says_locked l whole next output p lock (Says.asks_request message is said) = inl (is, subst IsLockedOutput (sym said) tt)
says_locked l whole next output p lock (Says.asks_key blob key unlocked there is said) = absurd (not_both l.passphrase p lock unlocked)
says_locked l whole next output p lock (Says.changes change said) = change_locked l whole next output p lock change said

stays : (p : List ℕ) (now : ℕ) (before after : AgentList) (output : AgentOutput) → before.passphrase ≡ Some p → Passes now before after → IsLockedOutput output → StaysLocked p now before after output
stays p now before after output lock passes quiet = record { passphrase = passes.passphrase ∙ lock; keys = passes.keys; latest = passes.latest; quiet = quiet }

answer_locked : (p : List ℕ) (now conn : ℕ) (input : AgentInput) (before after next : AgentList) (whole : List ℕ) (stands : _) (output : AgentOutput) → before.passphrase ≡ Some p → request_of (stands_in before conn) input ≡ Some whole
    → after ≡ standing conn stands next → Locked p whole (begun now conn before) next output → StaysLocked p now before after output ⊎ IsUnlocked p now conn input before after output
answer_locked p now conn input before after next whole stands output lock request is (inl (same, quiet)) =
    inl (stays p now before after output lock (set_passes now conn before after stands (is ∙ ap (λ (l : AgentList). standing conn stands l) same)) quiet)
answer_locked p now conn input before after next whole stands output lock request is (inr (off, said, asked)) = inr (record {
  request = subst (IsUnlockRequest p) (sym request) asked;
  passphrase = ap (λ (l : AgentList). l.passphrase) is ∙ ap (λ (l : AgentList). l.passphrase) off;
  keys = ap (λ (l : AgentList). l.keys) is ∙ ap (λ (l : AgentList). l.keys) off;
  acknowledged = said;
})

locked_permits : (p : List ℕ) (now conn : ℕ) (input : AgentInput) (before : AgentList) (q : SignRequest) → before.passphrase ≡ Some p → IsPermittedRequest now conn input before q → ⊥
locked_permits p now conn input before q lock permitted = not_both before.passphrase p lock permitted.may.unlocked

does_lock : (p : List ℕ) (now conn : ℕ) (input : AgentInput) (before after : AgentList) (gained : List SignCall) (output : AgentOutput) → before.passphrase ≡ Some p → Made now conn input before after gained output
    → KeepsLock p now conn input before after gained output
does_lock p now conn input before after gained output lock (Made.passed none is said) =
    record { unsigned = none; lock = inl (stays p now before after output lock (begun_passes now conn before after is) (subst IsLockedOutput (sym said) tt)) }
does_lock p now conn input before after gained output lock (Made.ended none is ends) =
    record { unsigned = none; lock = inl (stays p now before after output lock (set_passes now conn before after _ is) (end_locked output ends)) }
does_lock p now conn input before after gained output lock (Made.answered none whole next stands request says is) =
    record { unsigned = none; lock = answer_locked p now conn input before after next whole stands output lock request is (says_locked (begun now conn before) whole next output p lock says) }
does_lock p now conn input before after gained output lock (Made.signed q signature one may is said) = absurd (locked_permits p now conn input before q lock may)
does_lock p now conn input before after gained output lock (Made.refused q one may is said) = absurd (locked_permits p now conn input before q lock may)

-- a locked agent signs nothing and stays as it is, except for an unlock with its passphrase
pub step_locked : (p : List ℕ) (now conn : ℕ) (input : AgentInput) (before after : AgentList) (gained : List SignCall) (output : AgentOutput) → Steps now conn input before after gained output → before.passphrase ≡ Some p
    → KeepsLock p now conn input before after gained output
step_locked p now conn input before after gained output steps lock = by (step_does now conn input before after gained output steps)
  where
    by : StepDoes now conn input before after gained output → KeepsLock p now conn input before after gained output
    by (StepDoes.made made) = does_lock p now conn input before after gained output lock made
    by (StepDoes.starves (inl none) is said) =
        record { unsigned = none; lock = inl (stays p now before after output lock (starved_passes now conn before after is) (subst IsLockedOutput (sym said) tt)) }
    by (StepDoes.starves (inr (q, answer, one, may)) is said) = absurd (locked_permits p now conn input before q lock may)

-- ---- why a connection is closed

-- the signer was asked, and it refused
pub record WasRefused (gained : List SignCall) : Type 0 where
  pub asked : SignRequest
  pub one : gained ≡ call_of asked None ∷ []

closed_other : (output : AgentOutput) (other : AgentOutput) → output ≡ outputs.Closed causes.SignerRefused → output ≡ other → other ≡ outputs.Closed causes.SignerRefused
closed_other output other e f = sym f ∙ e

says_closed : (l : AgentList) (whole : List ℕ) (next : AgentList) (output : AgentOutput) → Says l whole next output → output ≡ outputs.Closed causes.SignerRefused → ⊥
says_closed l whole next output (Says.fails is said) closed = let clash = closed_other output _ closed said in cc
says_closed l whole next output (Says.lists unlocked is said) closed = let clash = closed_other output _ closed said in cc
says_closed l whole next output (Says.closes is said) closed = let clash = closed_other output _ closed said in cc
says_closed l whole next output (Says.asks_request message is said) closed = let clash = closed_other output _ closed said in cc
says_closed l whole next output (Says.asks_key blob key unlocked there is said) closed = let clash = closed_other output _ closed said in cc
says_closed l whole next output (Says.changes change said) closed = let clash = closed_other output _ closed said in cc

does_refuse : (now conn : ℕ) (input : AgentInput) (before after : AgentList) (gained : List SignCall) (output : AgentOutput) → Made now conn input before after gained output → output ≡ outputs.Closed causes.SignerRefused → WasRefused gained
does_refuse now conn input before after gained output (Made.passed none is said) closed = let clash = closed_other output _ closed said in absurd cc
does_refuse now conn input before after gained output (Made.ended none is ends) closed = absurd (subst IsEnd closed ends)
does_refuse now conn input before after gained output (Made.answered none whole next stands request says is) closed = absurd (says_closed (begun now conn before) whole next output says closed)
does_refuse now conn input before after gained output (Made.signed q signature one may is said) closed = let clash = closed_other output _ closed said in absurd cc
does_refuse now conn input before after gained output (Made.refused q one may is said) closed = record { asked = q; one = one }

-- a connection is closed because the signer refused only where it was asked and refused
pub step_refused : (now conn : ℕ) (input : AgentInput) (before after : AgentList) (gained : List SignCall) (output : AgentOutput) → Steps now conn input before after gained output → output ≡ outputs.Closed causes.SignerRefused → WasRefused gained
step_refused now conn input before after gained output steps closed = by (step_does now conn input before after gained output steps)
  where
    by : StepDoes now conn input before after gained output → WasRefused gained
    by (StepDoes.made made) = does_refuse now conn input before after gained output made closed
    by (StepDoes.starves cut is said) = let clash = closed_other output _ closed said in absurd cc

-- ---- answers with a signature

of_frame : (output : AgentOutput) (body : List ℕ) → output ≡ frame body → signature_of output ≡ signature_at body
of_frame output body is = ap signature_of is ∙ ap signature_at (behind_length body)

says_plain : (l : AgentList) (whole : List ℕ) (next : AgentList) (output : AgentOutput) → Says l whole next output → signature_of output ≡ None
says_plain l whole next output (Says.fails is said) = of_frame output _ said
says_plain l whole next output (Says.lists unlocked is said) = of_frame output _ said
says_plain l whole next output (Says.closes is said) = ap signature_of said
says_plain l whole next output (Says.asks_request message is said) = ap signature_of said
says_plain l whole next output (Says.asks_key blob key unlocked there is said) = ap signature_of said
says_plain l whole next output (Says.changes change said) = of_frame output _ said

end_plain : (output : AgentOutput) → IsEnd output → signature_of output ≡ None
end_plain (outputs.Answer whole) never = absurd never
end_plain (outputs.AskRequest message) never = refl
end_plain (outputs.AskKey blob) never = refl
end_plain outputs.Nothing ends = refl
end_plain (outputs.Closed cause) ends = refl

-- the signature in an answer is the one that the signer returned
made_told : (now conn : ℕ) (input : AgentInput) (before after : AgentList) (gained : List SignCall) (output : AgentOutput) → Made now conn input before after gained output → signature_of output ≡ signature_in gained
made_told now conn input before after gained output (Made.passed none is said) = ap signature_of said ∙ ap signature_in (sym none)
made_told now conn input before after gained output (Made.ended none is ends) = end_plain output ends ∙ ap signature_in (sym none)
made_told now conn input before after gained output (Made.answered none whole next stands request says is) = says_plain (begun now conn before) whole next output says ∙ ap signature_in (sym none)
made_told now conn input before after gained output (Made.signed q signature one may is said) = of_frame output _ said ∙ (ap Some (behind_length signature) ∙ ap signature_in (sym one))
made_told now conn input before after gained output (Made.refused q one may is said) = ap signature_of said ∙ ap signature_in (sym one)

-- an entry has a signature exactly with an answer of type 14, and it is the one in that frame
pub entry_told : (before after : AgentList) (e : Entry) → IsEntry before e after → IsTold e
entry_told before after e is = is.signature ∙ sym (by is.step)
  where
    by : Shows e.moment e.conn e.input before after is.gained e.output → signature_of e.output ≡ signature_in is.gained
    by (inl makes) = made_told e.moment e.conn e.input before after is.gained e.output (row_made e.moment e.conn e.input before after is.gained e.output makes)
    by (inr (none, starves)) = ap signature_of starves.closed ∙ ap signature_in (sym none)

-- a step as the entry that shows it
pub step_entry : (before after : AgentList) (e : Entry) (gained : List SignCall) → Steps e.moment e.conn e.input before after gained e.output → IsTold e → IsEntry before e after
step_entry before after e gained (inl makes) told =
    record { gained = gained; step = inl makes; signature = told ∙ made_told e.moment e.conn e.input before after gained e.output (row_made e.moment e.conn e.input before after gained e.output makes) }
step_entry before after e gained (inr starves) told =
    record {
      gained = [];
      step = inr (refl, record { closed = starves.closed; list = starves.list; asked = none_first (agent_row e.moment e.conn e.input before); open_before = starves.open_before });
      signature = told ∙ ap signature_of starves.closed;
    }

-- each entry of a history that leads on is told
pub entries_told : (before : AgentList) (entries : List Entry) (after : AgentList) → Leads before entries after → All IsTold entries
entries_told before [] after leads = All-nil IsTold
entries_told before (e ∷ entries) after (mid, is, leads) = All-cons IsTold e entries (entry_told before mid e is) (entries_told mid entries after leads)

-- ---- other connections

abbrev Conns : Type 0
Conns = List (ℕ × Standing)

pub unlike : (c conn : ℕ) → (c ≡ conn → ⊥) → is_eq (nat_cmp c conn) ≡ false
unlike c conn other = by (nat_lt c conn) refl
  where
    by : (b : Bool) → nat_lt c conn ≡ b → is_eq (nat_cmp c conn) ≡ false
    by true e = sym (ap is_eq (nat_cmp_is c conn Less (ltb-true c conn e)))
    by false e = sym (ap is_eq (nat_cmp_is c conn Greater (omega (arith, ltb-false c conn e, other))))

pub same_place : (conn key : ℕ) → nat_cmp conn key ≡ Equal → conn ≡ key
same_place conn key is = by (conn == key) refl
  where
    by : (b : Bool) → (conn == key) ≡ b → conn ≡ key
    by true e = eqb-true conn key e
    by false e = let clash : true ≡ false = sym (ap is_eq is) ∙ unlike conn key (eqb-false conn key e) in absurd cc

set_by : (o : Ordering) (c conn : ℕ) (v : Standing) (e : ℕ × Standing) (es : Conns) → (c ≡ conn → ⊥) → nat_cmp conn e.0 ≡ o → standing_of (insert_entry nat_cmp es conn v) c ≡ standing_of es c
    → standing_of (match_ordering o ((conn, v) ∷ e ∷ es) ((e.0, v) ∷ es) (e ∷ insert_entry nat_cmp es conn v)) c ≡ standing_of (e ∷ es) c
set_by Less c conn v e es other is later = ap (λ (b : Bool). cond b (Some v) (standing_of (e ∷ es) c)) (unlike c conn other)
set_by Equal c conn v e es other is later =
    let no : is_eq (nat_cmp c e.0) ≡ false = unlike c e.0 (λ same. other (same ∙ sym (same_place conn e.0 is))) in
    ap (λ (b : Bool). cond b (Some v) (standing_of es c)) no ∙ ap (λ (b : Bool). cond b (Some e.1) (standing_of es c)) (sym no)
set_by Greater c conn v e es other is later = ap (λ (o : Option Standing). cond (is_eq (nat_cmp c e.0)) (Some e.1) o) later

-- a connection that gets a state changes no other
set_others : (conns : Conns) (c conn : ℕ) (v : Standing) → (c ≡ conn → ⊥) → standing_of (with_standing conns conn v) c ≡ standing_of conns c
set_others [] c conn v other = ap (λ (b : Bool). cond b (Some v) None) (unlike c conn other)
set_others (e ∷ es) c conn v other = set_by (nat_cmp conn e.0) c conn v e es other refl (set_others es c conn v other)

seen_by : (b : Bool) (conns : Conns) (c conn : ℕ) → (c ≡ conn → ⊥) → standing_of (cond b (with_standing conns conn standings.Open) conns) c ≡ standing_of conns c
seen_by true conns c conn other = set_others conns c conn standings.Open other
seen_by false conns c conn other = refl

says_conns : (l : AgentList) (whole : List ℕ) (next : AgentList) (output : AgentOutput) → Says l whole next output → next.conns ≡ l.conns
says_conns l whole next output (Says.fails is said) = ap (λ (x : AgentList). x.conns) is
says_conns l whole next output (Says.lists unlocked is said) = ap (λ (x : AgentList). x.conns) is
says_conns l whole next output (Says.closes is said) = ap (λ (x : AgentList). x.conns) is
says_conns l whole next output (Says.asks_request message is said) = ap (λ (x : AgentList). x.conns) is
says_conns l whole next output (Says.asks_key blob key unlocked there is said) = ap (λ (x : AgentList). x.conns) is
says_conns l whole next output (Says.changes (Changes.keyed keys unlocked other is) said) = ap (λ (x : AgentList). x.conns) is
says_conns l whole next output (Says.changes (Changes.locks word unlocked asked is) said) = ap (λ (x : AgentList). x.conns) is
says_conns l whole next output (Says.changes (Changes.unlocks word own asked is) said) = ap (λ (x : AgentList). x.conns) is

module _ (now conn : ℕ) (before after : AgentList) where
  begun_others : (l : AgentList) → l.conns ≡ (begun now conn before).conns → (c : ℕ) → (c ≡ conn → ⊥) → standing_of l.conns c ≡ standing_of before.conns c
  begun_others l is c other = ap (λ (cs : Conns). standing_of cs c) is ∙ seen_by (is_new before.conns conn) before.conns c conn other

  put_others : (stands : Standing) (l : AgentList) → l.conns ≡ (begun now conn before).conns → after ≡ standing conn stands l → KeepsOthers conn before after
  put_others stands l same is c other =
      ap (λ (x : AgentList). standing_of x.conns c) is ∙ (set_others l.conns c conn stands other ∙ begun_others l same c other)

  starved_others : (b : Bool) → after ≡ cond b (aged now before) (standing conn standings.Closed (aged now before)) → KeepsOthers conn before after
  starved_others true is c other = ap (λ (x : AgentList). standing_of x.conns c) is
  starved_others false is c other = ap (λ (x : AgentList). standing_of x.conns c) is ∙ set_others before.conns c conn standings.Closed other

  made_others : (input : AgentInput) (gained : List SignCall) (output : AgentOutput) → Made now conn input before after gained output → KeepsOthers conn before after
  made_others input gained output (Made.passed none is said) = begun_others after (ap (λ (x : AgentList). x.conns) is)
  made_others input gained output (Made.ended none is ends) = put_others standings.Closed (begun now conn before) refl is
  made_others input gained output (Made.answered none whole next stands request says is) = put_others stands next (says_conns (begun now conn before) whole next output says) is
  made_others input gained output (Made.signed q signature one may is said) = put_others standings.Open (begun now conn before) refl is
  made_others input gained output (Made.refused q one may is said) = put_others standings.Closed (begun now conn before) refl is

-- a step leaves every other connection as it was
pub step_others : (now conn : ℕ) (input : AgentInput) (before after : AgentList) (gained : List SignCall) (output : AgentOutput) → Steps now conn input before after gained output → KeepsOthers conn before after
step_others now conn input before after gained output steps = by (step_does now conn input before after gained output steps)
  where
    by : StepDoes now conn input before after gained output → KeepsOthers conn before after
    by (StepDoes.made made) = made_others now conn before after input gained output made
    by (StepDoes.starves cut is said) = starved_others now conn before after (is_new before.conns conn) is

without_by : (o : Ordering) (c conn : ℕ) (e : ℕ × Standing) (es : Conns) → (c ≡ conn → ⊥) → nat_cmp conn e.0 ≡ o → standing_of (without es conn) c ≡ standing_of es c
    → standing_of (cond (is_eq o) es (e ∷ remove_entry (is_at (nat_cmp conn)) es)) c ≡ standing_of (e ∷ es) c
without_by Less c conn e es other is later = ap (λ (o : Option Standing). cond (is_eq (nat_cmp c e.0)) (Some e.1) o) later
without_by Equal c conn e es other is later =
    let no : is_eq (nat_cmp c e.0) ≡ false = unlike c e.0 (λ same. other (same ∙ sym (same_place conn e.0 is))) in
    ap (λ (b : Bool). cond b (Some e.1) (standing_of es c)) (sym no)
without_by Greater c conn e es other is later = ap (λ (o : Option Standing). cond (is_eq (nat_cmp c e.0)) (Some e.1) o) later

-- a connection that is forgotten leaves every other one as it was
pub without_others : (conns : Conns) (c conn : ℕ) → (c ≡ conn → ⊥) → standing_of (without conns conn) c ≡ standing_of conns c
without_others [] c conn other = refl
without_others (e ∷ es) c conn other = without_by (nat_cmp conn e.0) c conn e es other refl (without_others es c conn other)

pub forgotten_others : (conn : ℕ) (before after : AgentList) → after ≡ forgotten conn before → KeepsOthers conn before after
forgotten_others conn before after is c other = ap (λ (x : AgentList). standing_of x.conns c) is ∙ without_others before.conns c conn other
