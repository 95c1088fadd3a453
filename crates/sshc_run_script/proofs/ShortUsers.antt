-- The user that an event names is short: the name is in the event's fields, which are no more than 262144 bytes in a
-- script.
use Rattle.std.proofs.Common.{◌≡◌, ◌≤◌, ◌<◌, ◌^◌, ◌+◌, ℕ, zero, suc, Bool, true, false, cond, List, [], ◌∷◌, length, take, drop, Option, Some, None, Result, Ok, Err, refl, ap, sym, subst, ◌∙◌, arith}
use Rattle.std.specs.Prelude.{◌||◌, nat_lt}
use Rattle.std.specs.Int.{w32, w64, from_be_bytes, Width, byte_len}
use Rattle.std.specs.List.{AllByRecursion}
use Rattle.std.specs.Str.{is_utf8}
use Rattle.std.proofs.lemmas.Bool.{ltb-false}
use Rattle.std.proofs.lemmas.List.{length-drop, length-take}
use Rattle.sshc_wire.specs.CasesLaws.{neither}
use Rattle.sshc_wire.specs.Format.{both_at, part_at}
use Rattle.sshc_wire.specs.FormatLaws.{bind_ok, faults_ok, ok_is}
use Rattle.sshc_wire.specs.Grammar.{finished}
use Rattle.sshc_wire.specs.Reads.{◌>>=◌, byte_at, number_at, string_at, text_at}
use Rattle.sshc_wire.specs.Wire.{IsShort}
use Rattle.sshc_wire.specs.declared.error.WireError.{WireError}
use Rattle.sshc_wire.specs.declared.error.WireError.TheVariants.{NotText, Short}
use Rattle.sshc_wire.specs.declared.ticket.Ticket.{Ticket}
use Rattle.sshc_auth_event.specs.declared.event.Event.TheVariants as events
use Rattle.sshc_auth_event.specs.declared.method.Method.{Method}
use Rattle.sshc_auth.specs.Passwords.{HasShortUser}
use Rattle.sshc_run_reader.specs.declared.error.EventError.TheVariants as reads
use Rattle.sshc_run_reader.specs.declared.event_kind.EventKind.{EventKind}
use Rattle.sshc_run_reader.specs.declared.event_kind.EventKind.TheVariants as kinds
use Rattle.sshc_run_reader.specs.EventFields.{kind_of}
use Rattle.sshc_run_reader.specs.EventKinds.{kind_numbered}
use Rattle.sshc_run_reader.specs.EventParts.{as_bad, ticket_at, u32_at, words_at}
use Rattle.sshc_run_reader.specs.EventReading.{authenticate_at, authenticate_of, method_at}
use Rattle.sshc_run_reader.specs.KindLaws.{ReadAs, read_as}
use Rattle.sshc_run_reader.specs.Script.{head_of}
use Rattle.sshc_run_script.proofs.RunNames.{Event, EventError, event_of, Bad, End, Frame, Front, Head, Whole, events, front, frame_at, head_at, size_of, sized_front, whole_front}

-- ---- what a reader reads, and what remains, is no longer than its bytes

guard_is : {A E : Type 0} (b : Bool) (d : E) (x y : A) → cond b (Err d) (Ok x) ≡ Ok y → (b ≡ false) × (x ≡ y)
guard_is true d x y e = absurd cc
guard_is false d x y e = (refl, cc)

number_leaves : (w : Width) (bytes : List ℕ) (n : ℕ × List ℕ) → number_at w bytes ≡ Ok n → length n.1 ≤ length bytes
unfolding number_at
number_leaves w bytes n e =
    let h = guard_is (nat_lt (length bytes) (byte_len w)) Short (from_be_bytes w (take (byte_len w) bytes), drop (byte_len w) bytes) n e in
    let left : length n.1 ≡ length (drop (byte_len w) bytes) = sym (ap (λ (p : ℕ × List ℕ). length p.1) h.1) in
    omega (arith, left, length-drop (byte_len w) bytes)

string_short : (bytes : List ℕ) (t : List ℕ × List ℕ) → string_at bytes ≡ Ok t → length t.0 ≤ length bytes
unfolding string_at
string_short bytes t e =
    let b = bind_ok (number_at w32 bytes) (λ n. cond (nat_lt (length n.1) n.0) (Err Short) (Ok (take n.0 n.1, drop n.0 n.1))) t e in
    let g = guard_is (nat_lt (length b.0.1) b.0.0) Short (take b.0.0 b.0.1, drop b.0.0 b.0.1) t b.2 in
    let read : length t.0 ≡ length (take b.0.0 b.0.1) = sym (ap (λ (p : List ℕ × List ℕ). length p.0) g.1) in
    omega (arith, read, length-take b.0.0 b.0.1, number_leaves w32 bytes b.0 b.1)

text_is : (utf8 : Bool) (t u : List ℕ × List ℕ) → cond utf8 (Ok t) (Err NotText) ≡ Ok u → t ≡ u
text_is true t u e = cc
text_is false t u e = absurd cc

text_short : (bytes : List ℕ) (t : List ℕ × List ℕ) → text_at bytes ≡ Ok t → length t.0 ≤ length bytes
unfolding text_at
text_short bytes t e =
    let b = bind_ok (string_at bytes) (λ s. cond (is_utf8 s.0) (Ok s) (Err NotText)) t e in
    subst (λ (p : List ℕ × List ℕ). length p.0 ≤ length bytes) (text_is (is_utf8 b.0.0) b.0 t b.2) (string_short bytes b.0 b.1)

words_short : (bytes : List ℕ) (t : List ℕ × List ℕ) → words_at bytes ≡ Ok t → length t.0 ≤ length bytes
unfolding words_at
words_short bytes t e = text_short bytes t (faults_ok as_bad (text_at bytes) t e)

ticket_leaves : (bytes : List ℕ) (t : Ticket × List ℕ) → ticket_at bytes ≡ Ok t → length t.1 ≤ length bytes
unfolding ticket_at u32_at
ticket_leaves bytes t e =
    let b = bind_ok (part_at as_bad (number_at w32) bytes) (λ n. Ok (record { 0 = n.0 }, n.1)) t e in
    let n = faults_ok as_bad (number_at w32 bytes) b.0 b.1 in
    let left : length t.1 ≡ length b.0.1 = sym (ap (λ (p : Ticket × List ℕ). length p.1) (ok_is {E = EventError} (record { 0 = b.0.0 }, b.0.1) t b.2)) in
    omega (arith, left, number_leaves w32 bytes b.0 n)

-- ---- an event

ended_is : (x : Event × List ℕ) (event : Event) → finished reads.Bad x ≡ Ok event → x.0 ≡ event
ended_is (e, []) event is = cc
ended_is (e, (b ∷ rest)) event is = absurd cc

asks_short : (bytes : List ℕ) (ticket : Ticket) (user : List ℕ) (method : Method) → authenticate_of bytes ≡ Ok (events.Authenticate ticket user method) → length user ≤ length bytes
unfolding authenticate_of authenticate_at
asks_short bytes ticket user method e =
    let whole = bind_ok (both_at ticket_at (both_at words_at method_at) bytes >>= λ x. Ok (events.Authenticate x.0.0 x.0.1.0 x.0.1.1, x.1)) (λ x. finished reads.Bad x) (events.Authenticate ticket user method) e in
    let made = bind_ok (both_at ticket_at (both_at words_at method_at) bytes) (λ x. Ok (events.Authenticate x.0.0 x.0.1.0 x.0.1.1, x.1)) whole.0 whole.1 in
    let first = bind_ok (ticket_at bytes) (λ x. both_at words_at method_at x.1 >>= λ y. Ok ((x.0, y.0), y.1)) made.0 made.1 in
    let second = bind_ok (both_at words_at method_at first.0.1) (λ y. Ok ((first.0.0, y.0), y.1)) made.0 first.2 in
    let words = bind_ok (words_at first.0.1) (λ x. method_at x.1 >>= λ y. Ok ((x.0, y.0), y.1)) second.0 second.1 in
    let method_is = bind_ok (method_at words.0.1) (λ y. Ok ((words.0.0, y.0), y.1)) second.0 words.2 in
    let parts : second.0.0.0 ≡ words.0.0 = sym (ap (λ (p : (List ℕ × Method) × List ℕ). p.0.0) (ok_is {E = EventError} ((words.0.0, method_is.0.0), method_is.0.1) second.0 method_is.2)) in
    let both : made.0.0.1 ≡ second.0.0 = sym (ap (λ (p : (Ticket × (List ℕ × Method)) × List ℕ). p.0.1) (ok_is {E = EventError} ((first.0.0, second.0.0), second.0.1) made.0 second.2)) in
    let event : events.Authenticate made.0.0.0 made.0.0.1.0 made.0.0.1.1 ≡ events.Authenticate ticket user method =
    ap (λ (p : Event × List ℕ). p.0) (ok_is {E = EventError} (events.Authenticate made.0.0.0 made.0.0.1.0 made.0.0.1.1, made.0.1) whole.0 made.2) ∙ ended_is whole.0 (events.Authenticate ticket user method) whole.2 in
    let named : made.0.0.1.0 ≡ user = cc in
    let is : user ≡ words.0.0 = sym named ∙ ap (λ (p : List ℕ × Method). p.0) both ∙ parts in
    let short = words_short first.0.1 words.0 words.1 in
    let left = ticket_leaves bytes first.0 first.1 in
    omega (arith, ap length is, short, left)

-- the user of an event is no longer than its fields
pub user_of : (kind : EventKind) (bytes : List ℕ) (event : Event) → event_of kind bytes ≡ Ok event → length bytes < 2 ^ 32 → HasShortUser event
unfolding event_of
user_of kind bytes (events.Authenticate ticket user method) read short = by kind (subst (ReadAs kind) read (read_as kind bytes)) read
  where
    by : (kind : EventKind) → kind_of (events.Authenticate ticket user method) ≡ kind → event_of kind bytes ≡ Ok (events.Authenticate ticket user method) → IsShort user
    by kinds.Authenticate is read = let most = asks_short bytes ticket user method read in omega (arith, most, short)
    by kind is read = absurd cc
user_of kind bytes event read short = tt

-- ---- the events of a script

byte_leaves : (bytes : List ℕ) (b : ℕ × List ℕ) → byte_at bytes ≡ Ok b → length b.1 ≤ length bytes
unfolding byte_at
byte_leaves [] b e = absurd cc
byte_leaves (c ∷ bytes) b e = let is : bytes ≡ b.1 = ap (λ (p : ℕ × List ℕ). p.1) (ok_is {E = WireError} (c, bytes) b e) in omega (arith, ap length is)

head_fields : (last moment : ℕ) (kind : Option EventKind) (fields : List ℕ) (head : Head) → head_of last moment kind fields ≡ Ok head → length head.1.1 ≡ length fields
head_fields last moment None fields head e = absurd cc
head_fields last moment (Some kind) fields head e =
    let g = guard_is (nat_lt moment last) reads.Bad (moment, (kind, fields)) head e in
    sym (ap (λ (h : Head). length h.1.1) g.1)

head_short : (last : ℕ) (body : List ℕ) (head : Head) → head_at last body ≡ Ok head → length head.1.1 ≤ length body
unfolding head_at
head_short last body head e =
    let moment = bind_ok (part_at as_bad (number_at w64) body) (λ m. part_at as_bad byte_at m.1 >>= λ k. head_of last m.0 (kind_numbered k.0) k.1) head e in
    let number = bind_ok (part_at as_bad byte_at moment.0.1) (λ k. head_of last moment.0.0 (kind_numbered k.0) k.1) head moment.2 in
    let fields = head_fields last moment.0.0 (kind_numbered number.0.0) number.0.1 head number.2 in
    let one = number_leaves w64 body moment.0 (faults_ok as_bad (number_at w64 body) moment.0 moment.1) in
    let two = byte_leaves moment.0.1 number.0 (faults_ok as_bad (byte_at moment.0.1) number.0 number.1) in
    omega (arith, fields, one, two)

whole_is : (last : ℕ) (body : List ℕ) (read : Result Head EventError) (rest left : List ℕ) (head : Head) → head_at last body ≡ read → whole_front read rest ≡ Whole head left → head_at last body ≡ Ok head
whole_is last body (Ok h) rest left head is e = is ∙ ap (λ (x : Head). Ok x) (let same : h ≡ head = cc in same)
whole_is last body (Err e) rest left head is never = absurd cc

sized_short : (last n : ℕ) (rest left : List ℕ) (head : Head) (b : Bool) → (nat_lt n 9 || nat_lt 262144 n || nat_lt (length rest) n) ≡ b → cond b Bad (whole_front (head_at last (take n rest)) (drop n rest)) ≡ Whole head left → length head.1.1 < 2 ^ 32
sized_short last n rest left head true is e = absurd cc
sized_short last n rest left head false is e =
    let large = neither (nat_lt n 9 || nat_lt 262144 n) (nat_lt (length rest) n) is in
    let most : n ≤ 262144 = ltb-false 262144 n (neither (nat_lt n 9) (nat_lt 262144 n) large.0).1 in
    let short = head_short last (take n rest) head (whole_is last (take n rest) (head_at last (take n rest)) (drop n rest) left head refl e) in
    omega (arith, most, short, length-take n rest)

front_fields : (last : ℕ) (bytes left : List ℕ) (head : Head) → front last bytes ≡ Whole head left → length head.1.1 < 2 ^ 32
unfolding front sized_front
front_fields last (a ∷ b ∷ c ∷ d ∷ rest) left head e =
    let n : ℕ = from_be_bytes w32 (a ∷ b ∷ c ∷ d ∷ []) in
    sized_short last n rest left head (nat_lt n 9 || nat_lt 262144 n || nat_lt (length rest) n) refl e
front_fields last bytes left head e = absurd cc

abbrev pub HasShortFields : Frame → Type 0
HasShortFields frame = length frame.fields < 2 ^ 32

fields_behind : (n place last : ℕ) (bytes : List ℕ) (f : Front) → front last bytes ≡ f → ((place last : ℕ) (bytes : List ℕ) → AllByRecursion HasShortFields (events n place last bytes)) →
    AllByRecursion HasShortFields (elim f [ End ↦ [] | Bad ↦ [] | Whole head rest ↦ frame_at place head ∷ events n (place + size_of head) head.0 rest ])
fields_behind n place last bytes End is later = tt
fields_behind n place last bytes Bad is later = tt
fields_behind n place last bytes (Whole head rest) is later = (front_fields last bytes rest head is, later (place + size_of head) head.0 rest)

-- the fields of each event are short
pub events_short : (n place last : ℕ) (bytes : List ℕ) → AllByRecursion HasShortFields (events n place last bytes)
unfolding events
events_short zero place last bytes = tt
events_short (suc n) place last bytes = fields_behind n place last bytes (front last bytes) refl (λ place' last' bytes'. events_short n place' last' bytes')
