-- An outbox to which records are added, one list after the other, and which is cut back where memory ran out.
use Rattle.std.proofs.Common.{◌≡◌, ℕ, Bool, List, [], ◌∷◌, ◌++◌, length, take, Result, Ok, Err, refl, ap, sym, ◌∙◌, append_assoc}
use Rattle.std.specs.Prelude.{OnErr}
use Rattle.std.proofs.lemmas.List.{append-nil, take_at}
use Rattle.sshc_wire.specs.MessageNumbers.{CHANNEL_EXTENDED_DATA}
use Rattle.sshc_wire.specs.Outgoing.{Grows, Outgoing, shown}
use Rattle.sshc_wire.specs.OutgoingLaws.{grows_on, shown-append}
use Rattle.sshc_wire.specs.Wire.{string_text, u32_text}
use Rattle.sshc_wire.specs.declared.record.Record.{Record}
use Rattle.sshc_wire.specs.declared.record.Record.TheVariants.{Payload}
use Rattle.sshc_mux.specs.declared.chunk.Stream.TheVariants as Streams
use Rattle.sshc_mux.specs.Packets.{Piece, adding, payloads, piece_text}

-- an outbox is its records and whether it is muted
pub is_adding : (old new : Outgoing) (added : List Record) → new.records ≡ old.records ++ shown old.muted added → new.muted ≡ old.muted → new ≡ adding old added
unfolding adding
is_adding old new added records muted =
    ap (λ (rs : List Record). let o : Outgoing = record { records = rs; muted = new.muted } in o) records
    ∙ ap (λ (m : Bool). let o : Outgoing = record { records = old.records ++ shown old.muted added; muted = m } in o) muted

pub is_same : (old new : Outgoing) → new.records ≡ old.records → new.muted ≡ old.muted → new ≡ old
is_same old new records muted =
    ap (λ (rs : List Record). let o : Outgoing = record { records = rs; muted = new.muted } in o) records
    ∙ ap (λ (m : Bool). let o : Outgoing = record { records = old.records; muted = m } in o) muted

pub records_added : (old new : Outgoing) (added : List Record) → new ≡ adding old added → new.records ≡ old.records ++ shown old.muted added
unfolding adding
records_added old new added is = ap (λ (o : Outgoing). o.records) is

pub same_muted : (old new : Outgoing) (added : List Record) → new ≡ adding old added → new.muted ≡ old.muted
unfolding adding
same_muted old new added is = ap (λ (o : Outgoing). o.muted) is

pub adding-append : (o : Outgoing) (a b : List Record) → adding (adding o a) b ≡ adding o (a ++ b)
unfolding adding
adding-append o a b =
    ap (λ (rs : List Record). let p : Outgoing = record { records = rs; muted = o.muted } in p)
    (append_assoc o.records (shown o.muted a) (shown o.muted b) ∙ ap (λ (rs : List Record). o.records ++ rs) (sym (shown-append o.muted a b)))

pub adding-nil : (o : Outgoing) → adding o [] ≡ o
unfolding adding
adding-nil o = ap (λ (rs : List Record). let p : Outgoing = record { records = rs; muted = o.muted } in p) (append-nil o.records)

-- more were added
pub grew : (first : List Record) (old mid : Outgoing) (added : List Record) → Grows first old.records → mid ≡ adding old added → Grows first mid.records
grew first old mid added grown is = grows_on first old.records mid.records grown (shown old.muted added, records_added old mid added is)

pub none_grew : (records : List Record) → Grows records records
none_grew records = ([], sym (append-nil records))

-- an outbox that is cut back to the records that it had has these
pub cut_back : (old mid left : List Record) (count : ℕ) → count ≡ length old → Grows old mid → left ≡ take count mid → left ≡ old
cut_back old mid left count is (added, grown) cut =
    cut ∙ ap (λ (n : ℕ). take n mid) is ∙ ap (take (length old)) grown ∙ take_at old added (length old) refl

-- what holds, holds after an error
pub after_error : {A E : Type 0} (r : Result A E) (P : Type 0) → P → OnErr r P
after_error (Ok x) P h = tt
after_error (Err e) P h = h

-- the parts of an extended data packet
pub extended_text : (recipient code : ℕ) (bytes : List ℕ) →
    (CHANNEL_EXTENDED_DATA ∷ u32_text recipient ++ u32_text code ++ u32_text (length bytes)) ++ bytes ≡ piece_text recipient (Streams.Extended code) bytes
unfolding string_text u32_text
extended_text recipient code bytes =
    ap (λ (text : List ℕ). CHANNEL_EXTENDED_DATA ∷ text)
    (append_assoc (u32_text recipient) (u32_text code ++ u32_text (length bytes)) bytes
    ∙ ap (λ (text : List ℕ). u32_text recipient ++ text) (append_assoc (u32_text code) (u32_text (length bytes)) bytes))

-- a packet whose head is that of an extended data packet
pub extended_added : (recipient code size : ℕ) (head bytes : List ℕ) (old new : Outgoing) →
    size ≡ length bytes → head ≡ CHANNEL_EXTENDED_DATA ∷ u32_text recipient ++ u32_text code ++ u32_text size →
    new.records ≡ old.records ++ shown old.muted (Payload (head ++ bytes) ∷ []) → new.muted ≡ old.muted →
    new ≡ adding old (payloads recipient (Piece (Streams.Extended code) bytes ∷ []))
extended_added recipient code size head bytes old new size_is head_is records muted =
    let text : head ++ bytes ≡ piece_text recipient (Streams.Extended code) bytes =
    ap (λ (h : List ℕ). h ++ bytes) (head_is ∙ ap (λ (n : ℕ). CHANNEL_EXTENDED_DATA ∷ u32_text recipient ++ u32_text code ++ u32_text n) size_is)
    ∙ extended_text recipient code bytes in
    is_adding old new (payloads recipient (Piece (Streams.Extended code) bytes ∷ []))
    (records ∙ ap (λ (t : List ℕ). old.records ++ shown old.muted (Payload t ∷ [])) text) muted
