-- Lemmas on what is done with records: one more after those that were dealt with.
use Rattle.std.proofs.Common.{◌≡◌, refl, ℕ, ◌<◌, ◌≤◌, arith, Bool, true, false, List, [], ◌∷◌, ◌++◌, length, drop, slice_get, Option, Some, None, Result, Ok, Err, sym, ap, ◌∙◌, subst, append_assoc}
use Rattle.std.specs.Prelude.{IsErr, IsErrOf, OnErr, OnOk}
use Rattle.std.proofs.lemmas.List.{append-nil}
use Rattle.std.proofs.lemmas.Grind.{flat_map-append}
use Rattle.sshc_wire.specs.Faults.{HasCause, Rose}
use Rattle.sshc_wire.specs.Outgoing.{packet_in}
use Rattle.sshc_wire.specs.declared.record.Record.{Record}
use Rattle.sshc_wire.specs.declared.record.Record.TheVariants.{BeginExchange, Payload}
use Rattle.sshc_wire.specs.declared.error.NoMemory.{NoMemory as RanOut}
use Rattle.sshc_wire.specs.declared.source.Failed.{Failed}
use Rattle.sshc_wire.specs.declared.source.Failed.TheVariants.{Fault}
use Rattle.sshc_transport.specs.Transports.{Handing, exchange_begun, payload}
use Rattle.sshc_handle_tickets.specs.Tickets.{TicketState}
use Rattle.sshc_handle_state.specs.Picking.{LinkAt}
use Rattle.sshc_handle_state.specs.Dealing.{Deals, DealsBy, DealsFirst, DealsFront, Hands, HandsOn, gains_all, handing_of, handings, dealt, dealt_all}

-- ---- calls of the transport

gains_none : (handed : Option (List Handing)) → handed ≡ gains_all handed []
gains_none None = refl
gains_none (Some before) = ap (λ (xs : List Handing). Some xs) (sym (append-nil before))

gains_more : (handed : Option (List Handing)) (due more : List Handing) → gains_all (gains_all handed due) more ≡ gains_all handed (due ++ more)
gains_more None due more = refl
gains_more (Some before) due more = ap (λ (xs : List Handing). Some xs) (append_assoc before due more)

on_nothing : (failed : Bool) (handed : Option (List Handing)) → HandsOn [] failed failed handed handed
on_nothing true handed = (refl, refl)
on_nothing false handed = gains_none handed

pub hands_nothing : (failed : Bool) (link : LinkAt) → Hands [] failed failed link link
hands_nothing failed link = record {
  handed = on_nothing failed link.handed;
  answers = refl;
  later = omega arith;
  cause = λ before now. cc;
}

is_fault : (e : Failed) → e ≡ Fault → IsErrOf {T = Unit {0}} (Err e) Fault
is_fault e h = ap (λ (x : Failed). let r : Result (Unit {0}) Failed = Err x in r) h

-- a call that fails passes nothing on
pub hands_fault : (due : Handing) (failed : Bool) (was is : LinkAt) (e : Failed) → failed ≡ false → is.handed ≡ was.handed → is.answers ≡ was.answers → e ≡ Fault
    → HasCause {T = Unit {0}} was.faults is.faults (Err e) → Hands (due ∷ []) failed true was is
hands_fault due true was is e runs handed answers fault cause = cc
hands_fault due false was is e runs handed answers fault cause = record {
  handed = ([], due, [], refl, handed ∙ gains_none was.handed);
  answers = answers;
  later = cause.later;
  cause = λ before now. cause.fault (is_fault e fault);
}

on_more : (due more : List Handing) (first second third : Bool) (a b c : Option (List Handing))
    → HandsOn due first second a b → HandsOn more second third b c → HandsOn (due ++ more) first third a c
on_more due more true true third a b c one two = (two.0, two.1 ∙ one.1)
on_more due more true false third a b c one two = cc (one.0)
on_more due more false false false a b c one two = two ∙ (ap (λ (x : Option (List Handing)). gains_all x more) one ∙ gains_more a due more)
on_more due more false false true a b c one (front, next, rest, parts, handed) = (
  due ++ front,
  next,
  rest,
  ap (λ (x : List Handing). due ++ x) parts ∙ sym (append_assoc due front (next ∷ rest)),
  handed ∙ (ap (λ (x : Option (List Handing)). gains_all x front) one ∙ gains_more a due front),
)
on_more due more false true third a b c (front, next, rest, parts, handed) two =
    subst (λ (t : Bool). HandsOn (due ++ more) false t a c) (sym two.0)
    (front, next, rest ++ more, ap (λ (x : List Handing). x ++ more) parts ∙ append_assoc front (next ∷ rest) more, two.1 ∙ handed)

rose_later : (a b c : ℕ) → Rose a b → b ≤ c → Rose a c
rose_later a b c rose later = omega arith

rose_from : (a b c : ℕ) → a ≤ b → Rose b c → Rose a c
rose_from a b c later rose = omega arith

cause_more : (first second third : Bool) (a b c : ℕ) → a ≤ b → b ≤ c → (first ≡ false → second ≡ true → Rose a b) → (second ≡ false → third ≡ true → Rose b c)
    → first ≡ false → third ≡ true → Rose a c
cause_more first true third a b c ab bc one two runs failed = rose_later a b c (one runs refl) bc
cause_more first false third a b c ab bc one two runs failed = rose_from a b c ab (two refl failed)

hands_more : (due more : List Handing) (first second third : Bool) (a b c : LinkAt) → Hands due first second a b → Hands more second third b c → Hands (due ++ more) first third a c
hands_more due more first second third a b c one two = record {
  handed = on_more due more first second third a.handed b.handed c.handed one.handed two.handed;
  answers = two.answers ∙ one.answers;
  later = omega (arith, one.later, two.later);
  cause = cause_more first second third a.faults b.faults c.faults one.later two.later one.cause two.cause;
}

-- ---- records that are held

told_more : (records more : List Record) (t : TicketState) → dealt_all (records ++ more) t ≡ dealt_all more (dealt_all records t)
unfolding dealt_all
told_more [] more t = refl
told_more (output ∷ records) more t = told_more records more (dealt output t)

-- ---- both

pub deals_nothing : (failed : Bool) (t : TicketState) (link : LinkAt) → Deals [] failed failed t t link link
unfolding dealt_all
deals_nothing failed t link = record { tickets = refl; hands = hands_nothing failed link }

pub deals_none : (first second : Bool) (t : TicketState) (was is : LinkAt) → Hands [] first second was is → Deals [] first second t t was is
unfolding dealt_all
deals_none first second t was is hands = record { tickets = refl; hands = hands }

pub deals_payload : (output : Record) (packet : List ℕ) (first second : Bool) (t : TicketState) (was is : LinkAt) → output ≡ Payload packet
    → Hands (payload packet ∷ []) first second was is → Deals (output ∷ []) first second t t was is
unfolding dealt_all
deals_payload output packet first second t was is e hands = rw e (record { tickets = refl; hands = hands })

pub deals_exchange : (output : Record) (first second : Bool) (t : TicketState) (was is : LinkAt) → output ≡ BeginExchange
    → Hands (exchange_begun ∷ []) first second was is → Deals (output ∷ []) first second t t was is
unfolding dealt_all
deals_exchange output first second t was is e hands = rw e (record { tickets = refl; hands = hands })

pub deals_told : (output : Record) (failed : Bool) (old new : TicketState) (link : LinkAt) → handing_of output ≡ [] → new ≡ dealt output old → Deals (output ∷ []) failed failed old new link link
unfolding dealt_all
deals_told output failed old new link none e = record {
  tickets = e;
  hands = subst (λ (due : List Handing). Hands due failed failed link link) (sym (append-nil (handing_of output) ∙ none)) (hands_nothing failed link);
}

-- a record that is neither a packet nor an exchange makes no call of the transport
pub no_handing : (output : Record) → ((packet : List ℕ) → output ≡ Payload packet → ⊥) → (output ≡ BeginExchange → ⊥) → handing_of output ≡ []
no_handing (Payload packet) no_packet no_exchange = absurd (no_packet packet refl)
no_handing BeginExchange no_packet no_exchange = absurd (no_exchange refl)
no_handing output no_packet no_exchange = refl

pub deals_stay : (failed : Bool) (old new : TicketState) (link : LinkAt) → new ≡ old → Deals [] failed failed old new link link
deals_stay failed old new link e = subst (λ (t : TicketState). Deals [] failed failed old t link link) (sym e) (deals_nothing failed old link)

pub deals_more : (front more : List Record) (first second third : Bool) (s t u : TicketState) (a b c : LinkAt)
    → Deals front first second s t a b → Deals more second third t u b c → Deals (front ++ more) first third s u a c
deals_more front more first second third s t u a b c one two = record {
  tickets = two.tickets ∙ (ap (λ (x : TicketState). dealt_all more x) one.tickets ∙ sym (told_more front more s));
  hands = subst (λ (due : List Handing). Hands due first third a c) (sym (flat_map-append handing_of front more))
      (hands_more (handings front) (handings more) first second third a b c one.hands two.hands);
}

-- the loop's invariant: the records so far are dealt with
pub record DealtSo (all left : List Record) (failed_before failed_now : Bool) (old new : TicketState) (was is : LinkAt) : Type 0 where
  pub front : List Record
  pub parts : all ≡ front ++ left
  pub deals : Deals front failed_before failed_now old new was is

pub dealt_none : (all : List Record) (failed : Bool) (t : TicketState) (link : LinkAt) → DealtSo all all failed failed t t link link
dealt_none all failed t link = record { front = []; parts = refl; deals = deals_nothing failed t link }

pub dealt_more : (all left later : List Record) (output : Record) (first second third : Bool) (s t u : TicketState) (a b c : LinkAt)
    → left ≡ output ∷ later → DealtSo all left first second s t a b → Deals (output ∷ []) second third t u b c → DealtSo all later first third s u a c
dealt_more all left later output first second third s t u a b c taken so deals = record {
  front = so.front ++ output ∷ [];
  parts = so.parts ∙ (ap (λ (xs : List Record). so.front ++ xs) taken ∙ sym (append_assoc so.front (output ∷ []) later));
  deals = deals_more so.front (output ∷ []) first second third s t u a b c so.deals deals;
}

-- memory ran out with these records remaining
pub dealt_front : (all left : List Record) (first second third : Bool) (s t u : TicketState) (a b c : LinkAt)
    → DealtSo all left first second s t a b → Deals [] second third t u b c → DealsFront all first third s u a c
dealt_front all left first second third s t u a b c so deals = record {
  front = so.front;
  rest = left;
  parts = so.parts;
  deals = subst (λ (xs : List Record). Deals xs first third s u a c) (append-nil so.front) (deals_more so.front [] first second third s t u a b c so.deals deals);
}

-- a fact about one result from one about another
pub on_ok : {A E P Q : Type 0} (r : Result A E) → (P → Q) → OnOk r P → OnOk r Q
on_ok (Ok x) f h = f h
on_ok (Err e) f h = tt

pub on_err : {A E P Q : Type 0} (r : Result A E) → (P → Q) → OnErr r P → OnErr r Q
on_err (Ok x) f h = tt
on_err (Err e) f h = f h

pub by_err : (all : List Record) (first second : Bool) (s t : TicketState) (a b : LinkAt) (r : Result (Unit {0}) RanOut) → IsErr r
    → DealsFront all first second s t a b → DealsBy all first second s t a b r
by_err all first second s t a b (Ok u) err front = cc err
by_err all first second s t a b (Err e) err front = front

-- a packet that is lent is that of the first record
pub packet_first : (records : List Record) (packet : List ℕ) → Some packet ≡ packet_in (slice_get records 0) → records ≡ Payload packet ∷ drop 1 records
packet_first [] packet lent = absurd cc
packet_first (Payload p ∷ records) packet lent = let same : packet ≡ p = cc in ap (λ (x : List ℕ). Payload x ∷ records) (sym same)
packet_first (output ∷ records) packet lent = absurd cc

pub first_packet : (records left : List Record) (packet : List ℕ) (first second : Bool) (t : TicketState) (was is : LinkAt) → Some packet ≡ packet_in (slice_get records 0)
    → left ≡ drop 1 records → Hands (payload packet ∷ []) first second was is → DealsFirst records left first second t t was is (Ok true)
first_packet records left packet first second t was is lent gone hands =
    (Payload packet, packet_first records packet lent ∙ ap (λ (xs : List Record). Payload packet ∷ xs) (sym gone), deals_payload _ _ _ _ _ _ _ refl hands)

pub first_err : (records left : List Record) (first second : Bool) (s t : TicketState) (a b : LinkAt) (r : Result Bool RanOut) → IsErr r
    → Deals [] first second s t a b → DealsFirst records left first second s t a b r
first_err records left first second s t a b (Ok more) err deals = cc err
first_err records left first second s t a b (Err e) err deals = deals

-- the records so far are dealt with, and the first of the others
pub dealt_first : (all records left : List Record) (first second third : Bool) (s t u : TicketState) (a b c : LinkAt)
    → DealtSo all records first second s t a b → DealsFirst records left second third t u b c (Ok true) → DealtSo all left first third s u a c
dealt_first all records left first second third s t u a b c so (output, taken, deals) = dealt_more all records left output first second third s t u a b c taken so deals

-- and there is no other
pub dealt_last : (all records left : List Record) (first second third : Bool) (s t u : TicketState) (a b c : LinkAt)
    → DealtSo all records first second s t a b → DealsFirst records left second third t u b c (Ok false) → Deals all first third s u a c
dealt_last all records left first second third s t u a b c so (none, deals) =
    let whole : all ≡ so.front = so.parts ∙ (ap (λ (xs : List Record). so.front ++ xs) none ∙ append-nil so.front) in
    subst (λ (xs : List Record). Deals xs first third s u a c) (append-nil so.front ∙ sym whole)
    (deals_more so.front [] first second third s t u a b c so.deals deals)

-- one record is left less
pub fewer_left : (records left : List Record) (first second : Bool) (s t : TicketState) (a b : LinkAt) → DealsFirst records left first second s t a b (Ok true) → length left < length records
fewer_left records left first second s t a b (output, taken, deals) = omega (arith, ap (λ (xs : List Record). length xs) taken)
