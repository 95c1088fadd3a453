-- A table's turn from its channel's turn.
use Rattle.std.proofs.Common.{◌≡◌, ℕ, zero, suc, ◌+◌, ◌<◌, Bool, true, false, ◌||◌, if◌then◌else◌, List, [], ◌∷◌, ◌++◌, length, take, drop, map, set, get_or, Option, Some, None, Result, Ok, Err, refl, ap, sym, subst, ◌∙◌, arith, add-one}
use mir.Val.{bool_byte}
use Rattle.std.proofs.lemmas.List.{drop_more, append-nil, set-get_or}
use Rattle.sshc_wire.specs.declared.error.NoMemory.{NoMemory}
use Rattle.sshc_wire.specs.declared.record.Record.{Record}
use Rattle.sshc_wire.specs.declared.record.Record.TheVariants.{Payload}
use Rattle.sshc_wire.specs.Outgoing.{Outgoing, shown}
use Rattle.sshc_mux.specs.ChannelState.{ChannelState, TableState, channel_of, without}
use Rattle.sshc_mux.specs.Packets.{Packet, adding, packet_text, payloads}
use Rattle.sshc_mux.specs.ChannelTable.{flush, waits, any_waits, ChannelPacket, Effect, said_by, records_of, turned, turn_at, removed, taken_away, take_at, no_packets_of, accept_turn, settle, unmoved, all_said, CameAbout, Turned, Turn, flush_turn}
use Rattle.sshc_mux.specs.ChannelTable.Opens.{accepted, is_reserved}
use Rattle.sshc_mux.specs.Places.{Slots, present, IsPlace, flushed_slot, waiting_of}
use Rattle.sshc_mux.proofs.AddingLemmas.{adding-append}
use Rattle.sshc_mux.proofs.PlaceLemmas.{or_none, present-append}
use Rattle.sshc_mux.proofs.IndexLemmas.{present-flushed}

-- a channel's packets, as records
pub records-output : (c : ChannelState) (ps : List Packet) → records_of (said_by c ps) ≡ payloads c.head.recipient ps
records-output c [] = refl
records-output c (p ∷ ps) = ap (λ (rs : List Record). Payload (packet_text c.head.recipient p) ∷ rs) (records-output c ps)

pub records-append : (a b : List ChannelPacket) → records_of (a ++ b) ≡ records_of a ++ records_of b
records-append [] b = refl
records-append (s ∷ a) b = ap (λ (rs : List Record). Payload (packet_text s.recipient s.packet) ∷ rs) (records-append a b)

abbrev pub table_of : Slots → ℕ → TableState
table_of slots last = record { channels = present slots; last = last }

-- the channel is in the number's slot
pub record Held (n : ℕ) (slots : Slots) (at : ℕ) (c : ChannelState) : Type 0 where
  pub place : IsPlace n slots at
  pub here : get_or slots at None ≡ Some c
  pub found : channel_of n (present slots) ≡ Some c

pub held : (n at : ℕ) (slice slots : Slots) (x : Option ChannelState) (c : ChannelState) → slice ≡ slots → IsPlace n slice at → x ≡ get_or slots at x → x ≡ Some c → Held n slots at c
held n at slice slots x c same place_then item is =
    let place : IsPlace n slots at = subst (λ (s : Slots). IsPlace n s at) same place_then in
    let here : get_or slots at None ≡ Some c = sym (or_none at slots x place.channel place.here) ∙ sym item ∙ is in
    let one : Some place.channel ≡ Some c = sym place.here ∙ here in
    record { place = place; here = here; found = place.found ∙ one }

set_here : (at : ℕ) (slots : Slots) (slot : Option ChannelState) → get_or slots at None ≡ slot → set slots at slot ≡ slots
set_here at slots slot here = ap (λ (o : Option ChannelState). set slots at o) (sym here) ∙ set-get_or slots at None

-- the channel in the number's slot took its turn
pub did_turn : {A : Type 0} (n at last : ℕ) (turn : ChannelState → Turn) (slots : Slots) (before after : ChannelState) (old new : Outgoing) (result : Result A NoMemory) →
    Held n slots at before → Turned (turn before) before after old new result →
    CameAbout (turn_at n turn (table_of slots last)) (table_of slots last) (table_of (set slots at (Some after)) last) old new result
did_turn n at last turn slots before after old new (Ok x) here (after_is, written, muted) =
    let effect : turn_at n turn (table_of slots last) ≡ turned n (Some before) turn (table_of slots last) =
    ap (λ (o : Option ChannelState). turned n o turn (table_of slots last)) here.found in (
      ap (λ (c : ChannelState). table_of (set slots at (Some c)) last) after_is
          ∙ ap (λ (all : List ChannelState). let t : TableState = record { channels = all; last = last } in t) (sym (here.place.put (turn before).channel))
          ∙ ap (λ (e : Effect). e.table) (sym effect),
      written
          ∙ ap (λ (rs : List Record). old.records ++ shown old.muted rs) (sym (records-output before (turn before).packets))
          ∙ ap (λ (e : Effect). old.records ++ shown old.muted (records_of e.output)) (sym effect),
      muted,
    )
did_turn n at last turn slots before after old new (Err e) here (after_is, written, muted) = (
  ap (λ (c : ChannelState). table_of (set slots at (Some c)) last) after_is ∙ ap (λ (s : Slots). table_of s last) (set_here at slots (Some before) here.here),
  written,
  muted,
)

slot_said : (slot : Option ChannelState) (slots : Slots) → records_of (all_said (present (slot ∷ []))) ++ records_of (all_said (present slots)) ≡ records_of (all_said (present (slot ∷ slots)))
slot_said None slots = refl
slot_said (Some c) slots =
    let output : List ChannelPacket = said_by c (flush_turn c).packets in
    ap (λ (s : List ChannelPacket). records_of s ++ records_of (all_said (present slots))) (append-nil output) ∙ sym (records-append output (all_said (present slots)))

-- a slot's packets were added after the others'
pub said_more : (at : ℕ) (slots : Slots) (slot : Option ChannelState) (before after whole : Outgoing) → at < length slots → slot ≡ get_or slots at slot →
    after ≡ adding before (records_of (all_said (present (slot ∷ [])))) →
    adding before (records_of (all_said (present (drop at slots)))) ≡ whole → adding after (records_of (all_said (present (drop (at + 1) slots)))) ≡ whole
said_more at slots slot before after whole within item pushed so_far =
    let rest : List Record = records_of (all_said (present (drop (at + 1) slots))) in
    let next : drop at slots ≡ slot ∷ drop (at + 1) slots = drop_more slots at slot within ∙ ap (λ (o : Option ChannelState). o ∷ drop (at + 1) slots) (sym item) in
    ap (λ (o : Outgoing). adding o rest) pushed
    ∙ adding-append before (records_of (all_said (present (slot ∷ [])))) rest
    ∙ ap (λ (rs : List Record). adding before rs) (slot_said slot (drop (at + 1) slots) ∙ ap (λ (s : Slots). records_of (all_said (present s))) (sym next))
    ∙ so_far

-- nothing is written

said_none : (c : ChannelState) (ps : List Packet) → said_by c ps ≡ [] → ps ≡ []
said_none c [] none = refl
said_none c (p ∷ ps) none = absurd (cc)

both_none : (a b : List ChannelPacket) → a ++ b ≡ [] → (a ≡ []) × (b ≡ [])
both_none [] b none = (refl, none)
both_none (s ∷ a) b none = absurd (cc)

slot_none : (slot : Option ChannelState) (slots : Slots) → all_said (present (slot ∷ slots)) ≡ [] → (all_said (present (slot ∷ [])) ≡ []) × (all_said (present slots) ≡ [])
slot_none None slots none = (refl, none)
slot_none (Some c) slots none =
    let parts = both_none (said_by c (flush_turn c).packets) (all_said (present slots)) none in
    (append-nil (said_by c (flush_turn c).packets) ∙ parts.0, parts.1)

pub none_more : (at : ℕ) (slots : Slots) (slot : Option ChannelState) → at < length slots → slot ≡ get_or slots at slot → all_said (present (drop at slots)) ≡ [] → (all_said (present (slot ∷ [])) ≡ []) × (all_said (present (drop (at + 1) slots)) ≡ [])
none_more at slots slot within item none =
    let next : drop at slots ≡ slot ∷ drop (at + 1) slots = drop_more slots at slot within ∙ ap (λ (o : Option ChannelState). o ∷ drop (at + 1) slots) (sym item) in
    slot_none slot (drop (at + 1) slots) (ap (λ (s : Slots). all_said (present s)) (sym next) ∙ none)

pub slot_silent : (c : ChannelState) → all_said (present (Some c ∷ [])) ≡ [] → (flush_turn c).packets ≡ []
slot_silent c none = said_none c (flush_turn c).packets (both_none (said_by c (flush_turn c).packets) [] none).0

-- a turn that writes nothing
pub silent_turn : (n at last : ℕ) (turn : ChannelState → Turn) (slots : Slots) (c : ChannelState) → Held n slots at c → (turn_at n turn (table_of slots last)).output ≡ [] → (turn c).packets ≡ []
silent_turn n at last turn slots c here none = said_none c (turn c).packets (ap (λ (o : Option ChannelState). (turned n o turn (table_of slots last)).output) (sym here.found) ∙ none)

-- one slot alone
pub slot_alone : (c : ChannelState) → records_of (all_said (present (Some c ∷ []))) ≡ payloads c.head.recipient (flush_turn c).packets
slot_alone c = ap records_of (append-nil (said_by c (flush_turn c).packets)) ∙ records-output c (flush_turn c).packets

-- the slots of which the first ones were flushed
abbrev pub half_flushed : ℕ → Slots → Slots
half_flushed at slots = map flushed_slot (take at slots) ++ drop at slots

flushed_at : (at : ℕ) (slots : Slots) (d : Option ChannelState) → at < length slots → set (half_flushed at slots) at (flushed_slot (get_or (half_flushed at slots) at d)) ≡ half_flushed (suc at) slots
flushed_at at [] d within = absurd (omega arith)
flushed_at zero (slot ∷ slots) d within = refl
flushed_at (suc at) (slot ∷ slots) d within = ap (λ (rest : Slots). flushed_slot slot ∷ rest) (flushed_at at slots d (omega arith))

-- the count of those that wait, one slot further

abbrev count_if : Bool → ℕ
count_if b = if b then 1 else 0

waits_as : (b : Bool) → count_if (b || false) ≡ count_if b
waits_as true = refl
waits_as false = refl

slot_count : (slot : Option ChannelState) (slots : Slots) → (if any_waits (present (slot ∷ [])) then 1 else 0) + waiting_of (present slots) ≡ waiting_of (present (slot ∷ slots))
slot_count None slots = omega arith
slot_count (Some c) slots = omega (arith, waits_as (waits c))

pub count_more : (at : ℕ) (slots : Slots) (d : Option ChannelState) → at < length slots → waiting_of (present (map flushed_slot (take (suc at) slots))) ≡ waiting_of (present (map flushed_slot (take at slots))) + (if any_waits (present (flushed_slot (get_or slots at d) ∷ [])) then 1 else 0)
count_more at [] d within = absurd (omega arith)
count_more zero (slot ∷ slots) d within = omega (arith, slot_count (flushed_slot slot) [])
count_more (suc at) (slot ∷ slots) d within =
    let rest = count_more at slots d (omega arith) in
    omega (arith, rest, slot_count (flushed_slot slot) (map flushed_slot (take (suc at) slots)), slot_count (flushed_slot slot) (map flushed_slot (take at slots)))

half_at : (at : ℕ) (slots : Slots) (d : Option ChannelState) → at < length slots → get_or (half_flushed at slots) at d ≡ get_or slots at d
half_at at [] d within = absurd (omega arith)
half_at zero (slot ∷ slots) d within = refl
half_at (suc at) (slot ∷ slots) d within = half_at at slots d (omega arith)

pub counted_more : (at waiting waiting2 : ℕ) (b : Bool) (slots now : Slots) (d after : Option ChannelState) → at < length slots → now ≡ half_flushed at slots → after ≡ flushed_slot (get_or now at d) → b ≡ any_waits (present (after ∷ [])) →
    waiting ≡ waiting_of (present (map flushed_slot (take at slots))) → waiting2 ≡ waiting + (if b then 1 else 0) → waiting2 ≡ waiting_of (present (map flushed_slot (take (at + 1) slots)))
counted_more at waiting waiting2 b slots now d after within now_is after_is b_is so_far is =
    let item : after ≡ flushed_slot (get_or slots at d) = after_is ∙ ap (λ (l : Slots). flushed_slot (get_or l at d)) now_is ∙ ap flushed_slot (half_at at slots d within) in
    let one : (if b then 1 else 0) ≡ (if any_waits (present (flushed_slot (get_or slots at d) ∷ [])) then 1 else 0) =
    ap (λ (x : Bool). let count : ℕ = if x then 1 else 0 in count) (b_is ∙ ap (λ (o : Option ChannelState). any_waits (present (o ∷ []))) item) in
    rw add-one (omega (arith, so_far, is, one, count_more at slots d within))

pub flushed_more : (at : ℕ) (slots now : Slots) (d after : Option ChannelState) → at < length slots → now ≡ half_flushed at slots → after ≡ flushed_slot (get_or now at d) → set now at after ≡ half_flushed (at + 1) slots
flushed_more at slots now d after within now_is after_is =
    ap (λ (o : Option ChannelState). set now at o) (after_is ∙ ap (λ (l : Slots). flushed_slot (get_or l at d)) now_is)
    ∙ ap (λ (l : Slots). set l at (flushed_slot (get_or (half_flushed at slots) at d))) now_is
    ∙ rw add-one (flushed_at at slots d within)

-- the channel in the number's slot changed, or was removed

pub did_set : (n at last : ℕ) (turn : ChannelState → Turn) (slots : Slots) (c after : ChannelState) → Held n slots at c → after ≡ (turn c).channel → table_of (set slots at (Some after)) last ≡ (turn_at n turn (table_of slots last)).table
did_set n at last turn slots c after here after_is =
    ap (λ (x : ChannelState). table_of (set slots at (Some x)) last) after_is
    ∙ ap (λ (all : List ChannelState). let t : TableState = record { channels = all; last = last } in t) (sym (here.place.put (turn c).channel))
    ∙ ap (λ (o : Option ChannelState). (turned n o turn (table_of slots last)).table) (sym here.found)

pub did_take : (n at last : ℕ) (goes : ChannelState → Bool) (final : ChannelState → List Packet) (slots slots2 : Slots) (c : ChannelState) → Held n slots at c → goes c ≡ true → present slots2 ≡ without n (present slots) → table_of slots2 last ≡ (take_at n goes final (table_of slots last)).table
did_take n at last goes final slots slots2 c here goes_so left =
    ap (λ (all : List ChannelState). let t : TableState = record { channels = all; last = last } in t) left
    ∙ ap (λ (b : Bool). (if b then record { table = removed n (table_of slots last); output = said_by c (final c) } else unmoved (table_of slots last)).table) (sym goes_so)
    ∙ ap (λ (o : Option ChannelState). (taken_away n o goes final (table_of slots last)).table) (sym here.found)

-- a channel that was only looked at is still in its slot
pub same_slots : (n at : ℕ) (slots : Slots) (c : ChannelState) → Held n slots at c → set slots at (Some c) ≡ slots
same_slots n at slots c here = set_here at slots (Some c) here.here

-- a turn that doesn't change the channel doesn't change the table

pub turn_nothing : (n at last : ℕ) (turn : ChannelState → Turn) (slots : Slots) (x : ChannelState) → Held n slots at x → (turn x).channel ≡ x →
    table_of slots last ≡ (turn_at n turn (table_of slots last)).table
turn_nothing n at last turn slots x here still =
    ap (λ (s : Slots). table_of s last) (sym (set_here at slots (Some x) here.here))
    ∙ ap (λ (c : ChannelState). table_of (set slots at (Some c)) last) (sym still)
    ∙ ap (λ (all : List ChannelState). let t : TableState = record { channels = all; last = last } in t) (sym (here.place.put (turn x).channel))
    ∙ ap (λ (o : Option ChannelState). (turned n o turn (table_of slots last)).table) (sym here.found)

pub take_nothing : (n at last : ℕ) (goes : ChannelState → Bool) (final : ChannelState → List Packet) (slots : Slots) (x : ChannelState) → Held n slots at x → goes x ≡ false →
    table_of slots last ≡ (take_at n goes final (table_of slots last)).table
take_nothing n at last goes final slots x here stays =
    ap (λ (b : Bool). (if b then record { table = removed n (table_of slots last); output = said_by x (final x) } else unmoved (table_of slots last)).table) (sym stays)
    ∙ ap (λ (o : Option ChannelState). (taken_away n o goes final (table_of slots last)).table) (sym here.found)

pub settle_nothing : (accept : Bool) (n at last : ℕ) (slots : Slots) (x : ChannelState) → Held n slots at x → is_reserved x ≡ false →
    table_of slots last ≡ (settle n accept (table_of slots last)).table
settle_nothing true n at last slots x here stays = turn_nothing n at last accept_turn slots x here (ap (λ (b : Bool). if b then accepted x else x) stays)
settle_nothing false n at last slots x here stays = take_nothing n at last is_reserved no_packets_of slots x here stays

-- a channel was added after the others
pub pushed : (n : ℕ) (slots base longer : Slots) (c new : ChannelState) → base ≡ slots → longer ≡ base ++ Some c ∷ [] → c ≡ new → table_of longer n ≡ record { channels = present slots ++ new ∷ []; last = n }
pushed n slots base longer c new base_is longer_is is =
    ap (λ (s : Slots). table_of s n) (longer_is ∙ ap (λ (s : Slots). s ++ Some c ∷ []) base_is)
    ∙ ap (λ (all : List ChannelState). let t : TableState = record { channels = all; last = n } in t) (present-append slots c ∙ ap (λ (x : ChannelState). present slots ++ x ∷ []) is)

-- all were flushed
pub did_flush : {A : Type 0} (x : A) (last : ℕ) (slice slots now : Slots) (old new : Outgoing) → slice ≡ slots → now ≡ map flushed_slot slots →
    new.records ≡ old.records ++ shown old.muted (records_of (all_said (present slice))) → new.muted ≡ old.muted → CameAbout (flush (table_of slots last)) (table_of slots last) (table_of now last) old new (Ok x)
did_flush x last slice slots now old new same is added muted = (
  ap (λ (s : Slots). table_of s last) is ∙ ap (λ (all : List ChannelState). let t : TableState = record { channels = all; last = last } in t) (present-flushed slots),
  added ∙ ap (λ (s : Slots). old.records ++ shown old.muted (records_of (all_said (present s)))) same,
  muted,
)

pub one_byte : (b : Bool) → bool_byte b ≡ (if b then 1 else 0)
one_byte true = refl
one_byte false = refl
