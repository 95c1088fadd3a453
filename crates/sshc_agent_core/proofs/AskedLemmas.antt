-- What a step asks to be signed is what its row asks.
use Rattle.std.proofs.Common.{◌≡◌, ℕ, Bool, true, false, cond, not, List, [], ◌∷◌, Option, Some, None, Result, Ok, Err, refl, sym, ap, subst, ◌∙◌}
use Rattle.std.specs.Option.{is_some}
use Rattle.std.specs.Prelude.{◌==◌, ◌&&◌}
use Rattle.std.specs.Int.{w32}
use Rattle.std.specs.Ordering.{nat_cmp, is_eq, match_ordering}
use Rattle.std.specs.declared.cmp.Ordering.{Ordering}
use Rattle.std.specs.declared.cmp.Ordering.TheVariants.{Less, Equal, Greater}
use Rattle.std.specs.Cmp.{nat_cmp_is}
use Rattle.std.specs.BTreeMap.{insert_entry}
use Rattle.std.proofs.lemmas.Bool.{eqb-false, eqb-true}
use Rattle.sshc_wire.specs.declared.error.WireError.{WireError}
use Rattle.sshc_wire.specs.declared.message_type.MessageType.{MessageType}
use Rattle.sshc_wire.specs.Reads.{number_at, string_at}
use Rattle.sshc_key.specs.Asking.{Asking, SignRequest, asks, done}
use Rattle.sshc_key.specs.AgentNumbers.{SIGN_REQUEST}
use Rattle.sshc_agent_core.specs.declared.connections.Standing.{Standing}
use Rattle.sshc_agent_core.specs.declared.connections.Standing.TheVariants as standings
use Rattle.sshc_agent_core.specs.declared.input.AgentInput.{AgentInput}
use Rattle.sshc_agent_core.specs.declared.input.AgentInput.TheVariants as inputs
use Rattle.sshc_agent_core.specs.declared.key_list.HeldKey.{HeldKey}
use Rattle.sshc_agent_core.specs.AgentHistory.{MaySign, stands_in}
use Rattle.sshc_agent_core.specs.AgentList.{AgentList, aged}
use Rattle.sshc_agent_core.specs.AgentTable.{agent_row, asked_turn, frame_turn, is_refused, key_answer_turn, message_turn, request_answer_turn, seen_row, standing_row, tested_turn, turned}
use Rattle.sshc_agent_core.specs.AgentTable.Sign.{bytes_row, confirmed_in, confirmed_turn, flags_row, held_still, held_turn, sign_request_in, sign_request_turn, sign_row}
use Rattle.sshc_agent_core.specs.Asked.{asked_of}
use Rattle.sshc_agent_core.specs.AskedRows.{begins_sign, body_asks, bytes_ask, flags_ask, frame_asks, key_asks, may_ask, rest_asks, taken_now}
use Rattle.sshc_agent_core.specs.Connections.{is_new, standing_of, with_standing}
use Rattle.sshc_agent_core.specs.KeyList.{held}
use Rattle.sshc_agent_core.specs.Messages.{message_of}
use Rattle.sshc_agent_core.specs.ShapeLaws.{frame_does, request_answer_does}
use Rattle.sshc_agent_core.specs.StepShape.{Turns, begun}
use Rattle.sshc_agent_core.specs.Turn.{Outcome, Turn, asked_in, fails, says, signs}

-- ---- a key that signs

flags_is : (r : Result (ℕ × List ℕ) WireError) (bytes : List ℕ) (conn : ℕ) (l : AgentList) (key : HeldKey) → asked_in (flags_row r bytes conn l key) ≡ flags_ask conn key bytes r
flags_is (Err e) bytes conn l key = refl
flags_is (Ok flags) bytes conn l key = refl

bytes_is : (r : Result (List ℕ × List ℕ) WireError) (conn : ℕ) (l : AgentList) (key : HeldKey) → asked_in (bytes_row r conn l key) ≡ bytes_ask conn key r
bytes_is (Err e) conn l key = refl
bytes_is (Ok bytes) conn l key = flags_is (number_at w32 bytes.1) bytes.0 conn l key

rest_is : (conn : ℕ) (l : AgentList) (key : HeldKey) (rest : List ℕ) → asked_in (sign_row conn l key rest) ≡ rest_asks conn key rest
unfolding sign_row
rest_is conn l key rest = bytes_is (string_at rest) conn l key

-- what a turn asks
abbrev asked_by : ℕ → Turn → Option SignRequest
asked_by conn turn = asked_in (turned conn turn)

-- by a test
if_asks : (conn : ℕ) (b : Bool) (x y : Turn) (p q : Option SignRequest) → (b ≡ true → asked_by conn x ≡ p) → (b ≡ false → asked_by conn y ≡ q) → asked_by conn (cond b x y) ≡ cond b p q
if_asks conn true x y p q f g = f refl
if_asks conn false x y p q f g = g refl

confirm_by : (b : Bool) (p : Option SignRequest) → cond b None p ≡ cond (b && not false) None p
confirm_by true p = refl
confirm_by false p = refl

confirmed_by : (b : Bool) (p : Option SignRequest) → p ≡ cond (b && not true) None p
confirmed_by true p = refl
confirmed_by false p = refl

held_is : (conn : ℕ) (o : Option HeldKey) (rest whole : List ℕ) (l : AgentList) → asked_by conn (held_turn o rest whole l) ≡ key_asks conn false o rest
held_is conn None rest whole l = refl
held_is conn (Some key) rest whole l =
    if_asks conn key.constraints.confirm _ _ None (rest_asks conn key rest) (λ _. refl) (λ _. rest_is conn l key rest) ∙ confirm_by key.constraints.confirm (rest_asks conn key rest)

request_in : (conn : ℕ) (r : Result (List ℕ × List ℕ) WireError) (whole : List ℕ) (l : AgentList) → asked_by conn (sign_request_in r whole l) ≡ body_asks conn false l.keys r
request_in conn (Err e) whole l = refl
request_in conn (Ok blob) whole l = held_is conn (held l.keys blob.0) blob.1 whole l

request_is : (conn : ℕ) (body whole : List ℕ) (l : AgentList) → asked_by conn (sign_request_turn body whole l) ≡ body_asks conn false l.keys (string_at body)
unfolding sign_request_turn
request_is conn body whole l = request_in conn (string_at body) whole l

still_is : (conn : ℕ) (o : Option HeldKey) (rest : List ℕ) (l : AgentList) → asked_by conn (held_still o rest l) ≡ key_asks conn true o rest
still_is conn None rest l = refl
still_is conn (Some key) rest l = rest_is conn l key rest ∙ confirmed_by key.constraints.confirm (rest_asks conn key rest)

confirmed_in_is : (conn : ℕ) (r : Result (List ℕ × List ℕ) WireError) (l : AgentList) → asked_by conn (confirmed_in r l) ≡ body_asks conn true l.keys r
confirmed_in_is conn (Err e) l = refl
confirmed_in_is conn (Ok blob) l = still_is conn (held l.keys blob.0) blob.1 l

-- ---- other requests ask nothing

other_asks : (conn number : ℕ) (body : List ℕ) (l : AgentList) (C : Type 0) (turn : Turn) → (number ≡ SIGN_REQUEST → ⊥) → Turns l (number ∷ body) C turn → asked_by conn turn ≡ None
other_asks conn number body l C (says next stands output) other does = refl
other_asks conn number body l C (signs next key rest) other (is, may) = absurd (other (first_is number SIGN_REQUEST body may.body may.frame))
  where
    first_is : (a b : ℕ) (xs ys : List ℕ) → a ∷ xs ≡ b ∷ ys → a ≡ b
    first_is a b xs ys e = cc

-- ---- requests by the state of their connection

-- a request that is tested by the lock alone
tested_is : (conn : ℕ) (body : List ℕ) (l : AgentList) → asked_by conn (tested_turn (message_of SIGN_REQUEST) SIGN_REQUEST body (SIGN_REQUEST ∷ body) l) ≡ cond (is_some l.passphrase) None (body_asks conn false l.keys (string_at body))
unfolding message_of
tested_is conn body l = if_asks conn (is_some l.passphrase) _ _ None _ (λ _. refl) (λ _. request_is conn body (SIGN_REQUEST ∷ body) l)

asked_is : (conn : ℕ) (body : List ℕ) (l : AgentList) → l.asks ≡ false
    → asked_by conn (asked_turn (message_of SIGN_REQUEST) SIGN_REQUEST body (SIGN_REQUEST ∷ body) l) ≡ cond (is_some l.passphrase) None (body_asks conn false l.keys (string_at body))
unfolding message_of
asked_is conn body l silent =
    if_asks conn (is_some l.passphrase) _ _ None _ (λ _. refl)
    (λ _. if_asks conn l.asks _ _ None _ (λ _. refl) (λ _. request_is conn body (SIGN_REQUEST ∷ body) l) ∙ ap (λ (b : Bool). cond b None (body_asks conn false l.keys (string_at body))) silent)

allowed_is : (conn : ℕ) (whole : List ℕ) (l : AgentList) → asked_by conn (request_answer_turn true whole l) ≡ frame_asks conn false l whole
unfolding request_answer_turn
allowed_is conn [] l = refl
allowed_is conn (number ∷ body) l = by (number == SIGN_REQUEST) refl
  where
    by : (b : Bool) → (number == SIGN_REQUEST) ≡ b
        → asked_by conn (tested_turn (message_of number) number body (number ∷ body) l) ≡ cond b (cond (is_some l.passphrase) None (body_asks conn false l.keys (string_at body))) None
    by true is = subst (λ (n : ℕ). asked_by conn (tested_turn (message_of n) n body (n ∷ body) l) ≡ cond (is_some l.passphrase) None (body_asks conn false l.keys (string_at body))) (sym (eqb-true number SIGN_REQUEST is)) (tested_is conn body l)
    by false is = other_asks conn number body l ⊥ _ (eqb-false number SIGN_REQUEST is) (request_answer_does true (number ∷ body) l ⊥)

frame_is : (conn : ℕ) (whole : List ℕ) (l : AgentList) → l.asks ≡ false → asked_by conn (frame_turn whole l) ≡ frame_asks conn false l whole
unfolding frame_turn
frame_is conn [] l silent = refl
frame_is conn (number ∷ body) l silent = by (number == SIGN_REQUEST) refl
  where
    by : (b : Bool) → (number == SIGN_REQUEST) ≡ b
        → asked_by conn (asked_turn (message_of number) number body (number ∷ body) l) ≡ cond b (cond (is_some l.passphrase) None (body_asks conn false l.keys (string_at body))) None
    by true is = subst (λ (n : ℕ). asked_by conn (asked_turn (message_of n) n body (n ∷ body) l) ≡ cond (is_some l.passphrase) None (body_asks conn false l.keys (string_at body))) (sym (eqb-true number SIGN_REQUEST is)) (asked_is conn body l silent)
    by false is = other_asks conn number body l ⊥ _ (eqb-false number SIGN_REQUEST is) (frame_does (number ∷ body) l ⊥)

same_none : (b : Bool) → cond {A = Option SignRequest} b None None ≡ None
same_none true = refl
same_none false = refl

-- an agent that asks about a request signs nothing at its frame
asking_is : (conn : ℕ) (m : Option MessageType) (number : ℕ) (body whole : List ℕ) (l : AgentList) → l.asks ≡ true → asked_by conn (asked_turn m number body whole l) ≡ None
asking_is conn None number body whole l asking = refl
asking_is conn (Some m) number body whole l asking =
    if_asks conn (is_refused m (is_some l.passphrase)) _ _ None None (λ _. refl)
    (λ _. if_asks conn l.asks _ _ None None (λ _. refl) (λ silent. let clash : true ≡ false = sym asking ∙ silent in absurd cc) ∙ same_none l.asks) ∙ same_none (is_refused m (is_some l.passphrase))

asking_frame : (conn : ℕ) (whole : List ℕ) (l : AgentList) → l.asks ≡ true → asked_by conn (frame_turn whole l) ≡ None
unfolding frame_turn
asking_frame conn [] l asking = refl
asking_frame conn (number ∷ body) l asking = asking_is conn (message_of number) number body (number ∷ body) l asking

key_is : (conn : ℕ) (whole : List ℕ) (l : AgentList) → asked_by conn (key_answer_turn true whole l) ≡ frame_asks conn true l whole
unfolding key_answer_turn confirmed_turn
key_is conn [] l = same (is_some l.passphrase)
  where
    same : (b : Bool) → asked_by conn (cond b (fails l) (fails l)) ≡ None
    same true = refl
    same false = refl
key_is conn (number ∷ body) l = by (is_some l.passphrase) (number == SIGN_REQUEST)
  where
    by : (b c : Bool) → asked_by conn (cond b (fails l) (cond c (confirmed_in (string_at body) l) (fails l))) ≡ cond c (cond b None (body_asks conn true l.keys (string_at body))) None
    by true true = refl
    by true false = refl
    by false true = confirmed_in_is conn (string_at body) l
    by false false = refl

-- ---- an input

same_number : (n : ℕ) → is_eq (nat_cmp n n) ≡ true
same_number n = sym (ap is_eq (nat_cmp_is n n Equal refl))

abbrev Conns : Type 0
Conns = List (ℕ × Standing)

found_by : (o : Ordering) (conn : ℕ) (v : Standing) (e : ℕ × Standing) (es : Conns) → nat_cmp conn e.0 ≡ o → standing_of (insert_entry nat_cmp es conn v) conn ≡ Some v
    → standing_of (match_ordering o ((conn, v) ∷ e ∷ es) ((e.0, v) ∷ es) (e ∷ insert_entry nat_cmp es conn v)) conn ≡ Some v
found_by Less conn v e es is later = ap (λ (b : Bool). cond b (Some v) (standing_of (e ∷ es) conn)) (same_number conn)
found_by Equal conn v e es is later = ap (λ (o : Ordering). cond (is_eq o) (Some v) (standing_of es conn)) is
found_by Greater conn v e es is later = ap (λ (o : Ordering). cond (is_eq o) (Some e.1) (standing_of (insert_entry nat_cmp es conn v) conn)) is ∙ later

-- a connection has the state that it was given
found : (conns : Conns) (conn : ℕ) (v : Standing) → standing_of (with_standing conns conn v) conn ≡ Some v
found [] conn v = ap (λ (b : Bool). cond b (Some v) None) (same_number conn)
found (e ∷ es) conn v = found_by (nat_cmp conn e.0) conn v e es refl (found es conn v)

abbrev or_open : Option Standing → Option Standing
or_open None = Some standings.Open
or_open (Some stands) = Some stands

seen_by : (o : Option Standing) (conns : Conns) (conn : ℕ) → standing_of conns conn ≡ o → standing_of (cond (not (is_some o)) (with_standing conns conn standings.Open) conns) conn ≡ or_open o
seen_by None conns conn is = found conns conn standings.Open
seen_by (Some stands) conns conn is = is

seen_stands : (before : AgentList) (conn : ℕ) → stands_in before conn ≡ or_open (standing_of before.conns conn)
seen_stands before conn = seen_by (standing_of before.conns conn) before.conns conn refl

abbrev taken_asks : ℕ → AgentList → Option (Bool × List ℕ) → Option SignRequest
taken_asks conn l None = None
taken_asks conn l (Some taken) = frame_asks conn taken.0 l taken.1

open_is : (asking : Bool) (conn : ℕ) (whole : List ℕ) (l : AgentList) → l.asks ≡ asking → asked_by conn (frame_turn whole l) ≡ taken_asks conn l (cond asking None (Some (false, whole)))
open_is true conn whole l asking = asking_frame conn whole l asking
open_is false conn whole l silent = frame_is conn whole l silent

refused_is : (conn : ℕ) (whole : List ℕ) (l : AgentList) → asked_by conn (request_answer_turn false whole l) ≡ None
unfolding request_answer_turn
refused_is conn whole l = refl

unconfirmed_is : (conn : ℕ) (whole : List ℕ) (l : AgentList) → asked_by conn (key_answer_turn false whole l) ≡ None
unfolding key_answer_turn
unconfirmed_is conn whole l = refl

standing_is : (stands : Option Standing) (conn : ℕ) (input : AgentInput) (l : AgentList) → asked_in (standing_row (or_open stands) conn input l) ≡ taken_asks conn l (taken_now l.asks stands input)
standing_is None conn (inputs.Frame whole) l = open_is l.asks conn whole l refl
standing_is None conn (inputs.Oversize length) l = refl
standing_is None conn (inputs.RequestAnswer allowed) l = refl
standing_is None conn (inputs.KeyAnswer confirmed) l = refl
standing_is None conn inputs.Close l = refl
standing_is (Some standings.Open) conn (inputs.Frame whole) l = open_is l.asks conn whole l refl
standing_is (Some (standings.RequestAsked whole)) conn (inputs.RequestAnswer true) l = allowed_is conn whole l
standing_is (Some (standings.RequestAsked whole)) conn (inputs.RequestAnswer false) l = refused_is conn whole l
standing_is (Some (standings.KeyAsked whole)) conn (inputs.KeyAnswer true) l = key_is conn whole l
standing_is (Some (standings.KeyAsked whole)) conn (inputs.KeyAnswer false) l = unconfirmed_is conn whole l
standing_is (Some stands) conn input l = refl

-- what the row of an input asks
row_is : (now conn : ℕ) (input : AgentInput) (before : AgentList) → asked_of now conn input before ≡ taken_asks conn (begun now conn before) (taken_now before.asks (standing_of before.conns conn) input)
unfolding asked_of agent_row seen_row
row_is now conn input before =
    ap (λ (stands : Option Standing). asked_in (standing_row stands conn input (begun now conn before))) (seen_stands before conn)
    ∙ standing_is (standing_of before.conns conn) conn input (begun now conn before)

-- connections are of no account
frame_same : (now conn : ℕ) (confirmed : Bool) (before : AgentList) (whole : List ℕ) → frame_asks conn confirmed (begun now conn before) whole ≡ frame_asks conn confirmed (aged now before) whole
frame_same now conn confirmed before [] = refl
frame_same now conn confirmed before (number ∷ body) = refl

-- what is asked of the frame that an input has the agent take now; nothing if there is none
pub asked_now : (now conn : ℕ) (input : AgentInput) (before : AgentList) (confirmed : Bool) (whole : List ℕ) → Some (confirmed, whole) ≡ taken_now before.asks (standing_of before.conns conn) input
    → frame_asks conn confirmed (aged now before) whole ≡ asked_of now conn input before
asked_now now conn input before confirmed whole is =
    sym (frame_same now conn confirmed before whole)
    ∙ (ap (taken_asks conn (begun now conn before)) is ∙ sym (row_is now conn input before))

pub none_now : (now conn : ℕ) (input : AgentInput) (before : AgentList) → None ≡ taken_now before.asks (standing_of before.conns conn) input → None ≡ asked_of now conn input before
none_now now conn input before is = ap (taken_asks conn (begun now conn before)) is ∙ sym (row_is now conn input before)

-- a frame that is no sign request asks nothing
other_frame : (conn : ℕ) (whole : List ℕ) (l : AgentList) → begins_sign whole ≡ false → frame_asks conn false l whole ≡ None
other_frame conn [] l other = refl
other_frame conn (number ∷ body) l other = ap (λ (b : Bool). cond b (cond (is_some l.passphrase) None (body_asks conn false l.keys (string_at body))) None) other

other_open : (asking : Bool) (conn : ℕ) (whole : List ℕ) (l : AgentList) → begins_sign whole ≡ false → taken_asks conn l (cond asking None (Some (false, whole))) ≡ None
other_open true conn whole l other = refl
other_open false conn whole l other = other_frame conn whole l other

other_input : (stands : Option Standing) (conn : ℕ) (input : AgentInput) (l : AgentList) → may_ask input ≡ false → taken_asks conn l (taken_now l.asks stands input) ≡ None
other_input None conn (inputs.Frame whole) l other = other_open l.asks conn whole l other
other_input (Some standings.Open) conn (inputs.Frame whole) l other = other_open l.asks conn whole l other
other_input (Some standings.Closed) conn (inputs.Frame whole) l other = refl
other_input (Some (standings.RequestAsked asked)) conn (inputs.Frame whole) l other = refl
other_input (Some (standings.KeyAsked asked)) conn (inputs.Frame whole) l other = refl
other_input stands conn input l other = absurd cc

pub none_other : (now conn : ℕ) (input : AgentInput) (before : AgentList) → may_ask input ≡ false → None ≡ asked_of now conn input before
none_other now conn input before other = sym (row_is now conn input before ∙ other_input (standing_of before.conns conn) conn input (begun now conn before) other)
