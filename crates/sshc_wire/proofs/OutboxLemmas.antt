-- Records and the texts that tell them.
use Rattle.std.proofs.Common.{◌≡◌, ℕ, zero, suc, Bool, false, eqb, List, [], ◌∷◌, ◌++◌, length, drop, take, map, slice_get, ◌+◌, append-nil, append_assoc, Option, Some, None, Result, Ok, Err, refl, sym, ap, ◌∙◌, subst, arith}
use Rattle.std.specs.Option.{option_map}
use Rattle.std.specs.Prelude.{OnOk, is_err}
use Rattle.std.proofs.lemmas.List.Concat.{flat_map-cons}
use Rattle.std.proofs.lemmas.List.{take_at}
use Rattle.std.proofs.lemmas.Option.{slice_get-map}
use Rattle.sshc_wire.specs.declared.error.WireError.{WireError}
use Rattle.sshc_wire.specs.Reads.{string_at}
use Rattle.sshc_wire.specs.CasesLaws.{by_cases}
use Rattle.std.specs.Prelude.{nat_lt}
use Rattle.sshc_wire.specs.declared.record.Record.{Record}
use Rattle.sshc_wire.specs.declared.record.Record.TheVariants.{Payload, Resolved, Auth, KexDone, AuthBanner, Channel, ServerOpened, HostKeysAnnounced, Agent}
use Rattle.sshc_wire.specs.Outgoing.{kept, packet_in, shown, text_in, texts}
use Rattle.sshc_wire.specs.OutgoingLaws.{shown-append}
use Rattle.sshc_wire.specs.Packing.{joined}
use Rattle.sshc_wire.specs.Records.{record_text}
use Rattle.sshc_wire.specs.RecordReads.{answer_at, asked_at, happened_at, opened_at, resolved_at, strings_at}
use Rattle.sshc_wire.specs.Telling.{AllTold, AreTold, made_of, record_by, record_of, records_of}
use Rattle.sshc_wire.proofs.ToldRecords.{told}

pub records_len : (held : List (List ℕ)) → length held ≡ length (records_of held)
records_len [] = refl
records_len (t ∷ held) = ap suc (records_len held)

-- ---- more records

records_by : (held : List (List ℕ)) (more : List Record) → AllTold more → records_of (held ++ map record_text more) ≡ records_of held ++ more
records_by [] [] told = refl
records_by [] (output ∷ more) told = ap (λ (r : Record). r ∷ records_of (map record_text more)) told.0 ∙ ap (λ (rs : List Record). output ∷ rs) (records_by [] more told.1)
records_by (t ∷ held) more told = ap (λ (rs : List Record). record_of t ∷ rs) (records_by held more told)

told_by : (held : List (List ℕ)) (more : List Record) → AreTold held → AllTold more → AreTold (held ++ map record_text more)
told_by [] [] are told = tt
told_by [] (output ∷ more) are told = (ap record_text told.0, told_by [] more tt told.1)
told_by (t ∷ held) more are told = (are.0, told_by held more are.1 told)

pub more_records : (held now : List (List ℕ)) (more : List Record) → now ≡ held ++ map record_text more → AllTold more → records_of now ≡ records_of held ++ more
more_records held now more is told = ap records_of is ∙ records_by held more told

pub more_told : (held now : List (List ℕ)) (more : List Record) → now ≡ held ++ map record_text more → AllTold more → AreTold held → AreTold now
more_told held now more is told are = subst AreTold (sym is) (told_by held more are told)

pub nothing_more : (held : List (List ℕ)) → held ≡ held ++ []
nothing_more held = sym (append-nil held)

-- one record, which is shown or not
pub one_shown : (held now : List (List ℕ)) (muted : Bool) (output : Record) → now ≡ held ++ map record_text (kept muted output) → now ≡ held ++ map record_text (shown muted (output ∷ []))
one_shown held now muted output is = is ∙ ap (λ (rs : List Record). held ++ map record_text rs) (sym (append-nil (kept muted output)))

pub one_pushed : (held now : List (List ℕ)) (muted : Bool) (output : Record) → now ≡ held ++ map record_text (kept muted output) → AllTold (kept muted output)
    → records_of now ≡ records_of held ++ (kept muted output ++ [])
one_pushed held now muted output is told = more_records held now (kept muted output) is told ∙ ap (λ (rs : List Record). records_of held ++ rs) (sym (append-nil (kept muted output)))

pub one_told : (muted : Bool) (output : Record) → AllTold (kept muted output) → AllTold (shown muted (output ∷ []))
one_told muted output told = subst AllTold (sym (append-nil (kept muted output))) told

-- one record more of a list
shown_next : (muted : Bool) (output : List Record) (n : ℕ) (one : Record) → slice_get output n ≡ Some one → shown muted (take (n + 1) output) ≡ shown muted (take n output) ++ kept muted one
shown_next muted [] n one there = absurd cc
shown_next muted (x ∷ output) zero one there = let same : x ≡ one = cc in append-nil (kept muted x) ∙ ap (kept muted) same
shown_next muted (x ∷ output) (suc n) one there =
    let count : suc n + 1 ≡ suc (n + 1) = omega arith in
    ap (λ (k : ℕ). shown muted (take k (x ∷ output))) count ∙ ap (λ (rs : List Record). kept muted x ++ rs) (shown_next muted output n one there) ∙ sym (append_assoc (kept muted x) (shown muted (take n output)) (kept muted one))

map_both : (a b : List Record) → map record_text (a ++ b) ≡ map record_text a ++ map record_text b
map_both [] b = refl
map_both (r ∷ a) b = ap (λ (ts : List (List ℕ)). record_text r ∷ ts) (map_both a b)

told_both : (a b : List Record) → AllTold a → AllTold b → AllTold (a ++ b)
told_both [] b h k = k
told_both (r ∷ a) b h k = (h.0, told_both a b h.1 k)

pub texts_next : (held mid now : List (List ℕ)) (muted : Bool) (output : List Record) (n : ℕ) (one : Record) → slice_get output n ≡ Some one → mid ≡ held ++ map record_text (shown muted (take n output))
    → now ≡ mid ++ map record_text (kept muted one) → now ≡ held ++ map record_text (shown muted (take (n + 1) output))
texts_next held mid now muted output n one there before is =
    is ∙ ap (λ (ts : List (List ℕ)). ts ++ map record_text (kept muted one)) before
    ∙ append_assoc held (map record_text (shown muted (take n output))) (map record_text (kept muted one))
    ∙ ap (λ (ts : List (List ℕ)). held ++ ts) (sym (map_both (shown muted (take n output)) (kept muted one)) ∙ ap (map record_text) (sym (shown_next muted output n one there)))

pub told_next : (muted : Bool) (output : List Record) (n : ℕ) (one : Record) → slice_get output n ≡ Some one → AllTold (shown muted (take n output)) → AllTold (kept muted one) → AllTold (shown muted (take (n + 1) output))
told_next muted output n one there before told = subst AllTold (sym (shown_next muted output n one there)) (told_both (shown muted (take n output)) (kept muted one) before told)

pub both_added : (held mid now : List (List ℕ)) (muted : Bool) (a b : List Record) → mid ≡ held ++ map record_text (shown muted a) → now ≡ mid ++ map record_text (shown muted b)
    → now ≡ held ++ map record_text (shown muted (a ++ b))
both_added held mid now muted a b first second =
    second ∙ ap (λ (ts : List (List ℕ)). ts ++ map record_text (shown muted b)) first ∙ append_assoc held (map record_text (shown muted a)) (map record_text (shown muted b))
    ∙ ap (λ (ts : List (List ℕ)). held ++ ts) (sym (map_both (shown muted a) (shown muted b)) ∙ ap (map record_text) (sym (shown-append muted a b)))

pub all_told : (muted : Bool) (a b : List Record) → AllTold (shown muted a) → AllTold (shown muted b) → AllTold (shown muted (a ++ b))
all_told muted a b h k = subst AllTold (sym (shown-append muted a b)) (told_both (shown muted a) (shown muted b) h k)

pub cut_to_old : (held mid : List (List ℕ)) (more : List (List ℕ)) → mid ≡ held ++ more → take (length held) mid ≡ held
cut_to_old held mid more is = ap (take (length held)) is ∙ take_at held more (length held) refl

pub rest_told : (held : List (List ℕ)) → AreTold held → AreTold (drop 1 held)
rest_told [] are = tt
rest_told (t ∷ held) are = are.1

pub first_told : (n : ℕ) (held : List (List ℕ)) → AreTold held → AreTold (take n held)
first_told zero held are = tt
first_told (suc n) [] are = tt
first_told (suc n) (t ∷ held) are = (are.0, first_told n held are.1)

pub first_records : (n : ℕ) (held : List (List ℕ)) → records_of (take n held) ≡ take n (records_of held)
first_records zero held = refl
first_records (suc n) [] = refl
first_records (suc n) (t ∷ held) = ap (λ (rs : List Record). record_of t ∷ rs) (first_records n held)

pub rest_records : (held : List (List ℕ)) → records_of (drop 1 held) ≡ drop 1 (records_of held)
rest_records [] = refl
rest_records (t ∷ held) = refl

pub told_joined : (held : List (List ℕ)) → AreTold held → joined held ≡ texts (records_of held)
told_joined [] are = refl
told_joined (t ∷ held) are =
    ap (λ (b : List ℕ). b ++ joined held) (sym are.0) ∙ ap (λ (b : List ℕ). record_text (record_of t) ++ b) (told_joined held are.1)
    ∙ sym (flat_map-cons record_text (record_of t) (records_of held))

text_told : (held : List (List ℕ)) (at : ℕ) (t : List ℕ) → AreTold held → slice_get held at ≡ Some t → record_text (record_of t) ≡ t
text_told [] at t are there = absurd cc
text_told (x ∷ held) zero t are there = let same : x ≡ t = cc in subst (λ (y : List ℕ). record_text (record_of y) ≡ y) same are.0
text_told (x ∷ held) (suc at) t are there = text_told held at t are.1 there

record_held : (held : List (List ℕ)) (at : ℕ) (t : List ℕ) → slice_get held at ≡ Some t → slice_get (records_of held) at ≡ Some (record_of t)
record_held held at t there = slice_get-map record_of held at ∙ ap (option_map record_of) there

none_held : (held : List (List ℕ)) (at : ℕ) → slice_get held at ≡ None → slice_get (records_of held) at ≡ None
none_held held at there = slice_get-map record_of held at ∙ ap (option_map record_of) there

text_by : (t : List ℕ) (o : Option (List ℕ)) → o ≡ Some t → record_text (record_of t) ≡ t → o ≡ option_map record_text (option_map record_of o)
text_by t o there told = there ∙ ap (λ (x : List ℕ). Some x) (sym told) ∙ ap (λ (p : Option (List ℕ)). option_map record_text (option_map record_of p)) (sym there)

lent_by : (held : List (List ℕ)) (at : ℕ) (o : Option (List ℕ)) → AreTold held → slice_get held at ≡ o → o ≡ option_map record_text (option_map record_of o)
lent_by held at None are there = refl
lent_by held at (Some t) are there = text_by t (Some t) refl (text_told held at t are there)

-- the text of a record
pub text_lent : (held : List (List ℕ)) (at : ℕ) → AreTold held → slice_get held at ≡ option_map record_text (slice_get (records_of held) at)
text_lent held at are = lent_by held at (slice_get held at) are refl ∙ ap (option_map record_text) (sym (slice_get-map record_of held at))

pub text_held : (held : List (List ℕ)) (at : ℕ) (t : List ℕ) → AreTold held → Some t ≡ slice_get held at → t ≡ text_in (slice_get (records_of held) at)
text_held held at t are there = sym (text_told held at t are (sym there)) ∙ ap text_in (sym (record_held held at t (sym there)))

pub no_text : (held : List (List ℕ)) (at : ℕ) → None ≡ slice_get held at → [] ≡ text_in (slice_get (records_of held) at)
no_text held at there = ap text_in (sym (none_held held at (sym there)))

-- ---- packets that are added

pub packet_added : (held now : List (List ℕ)) (packet : List ℕ) → now ≡ held ++ (0x01 ∷ packet) ∷ [] → records_of now ≡ records_of held ++ Payload packet ∷ []
packet_added held now packet is = more_records held now (Payload packet ∷ []) is (told (Payload packet) tt, tt)

pub packet_told : (held now : List (List ℕ)) (packet : List ℕ) → now ≡ held ++ (0x01 ∷ packet) ∷ [] → AreTold held → AreTold now
packet_told held now packet is are = more_told held now (Payload packet ∷ []) is (told (Payload packet) tt, tt) are

-- ---- the first record

pub first_taken : (held : List (List ℕ)) (output : Record) → Some output ≡ option_map record_of (slice_get held 0) → records_of held ≡ output ∷ records_of (drop 1 held)
first_taken [] output is = absurd cc
first_taken (t ∷ held) output is = let same : output ≡ record_of t = cc in ap (λ (r : Record). r ∷ records_of held) (sym same)

pub none_taken : (held : List (List ℕ)) → None ≡ option_map record_of (slice_get held 0) → records_of held ≡ []
none_taken [] is = refl
none_taken (t ∷ held) is = absurd cc

-- ---- packets

pub packet_held : (held : List (List ℕ)) (at : ℕ) (t : List ℕ) (o : Option (List ℕ)) → Some t ≡ slice_get held at → o ≡ packet_in (Some (record_of t)) → o ≡ packet_in (slice_get (records_of held) at)
packet_held held at t o there is = is ∙ ap packet_in (sym (record_held held at t (sym there)))

pub no_packet : (held : List (List ℕ)) (at : ℕ) → None ≡ slice_get held at → None ≡ packet_in (slice_get (records_of held) at)
no_packet held at there = ap packet_in (sym (none_held held at (sym there)))

-- ---- other records

none_made : {A : Type 0} (make : A → Record) → ((x : A) → packet_in (Some (make x)) ≡ None) → (r : Result (A × List ℕ) WireError) → packet_in (Some (made_of make r)) ≡ None
none_made make none (Ok x) = none x.0
none_made make none (Err e) = refl

-- the record isn't a packet
abbrev IsOther : Record → Type 0
IsOther output = packet_in (Some output) ≡ None

-- a record of another number isn't a packet
pub other_number : (number : ℕ) (body : List ℕ) → eqb number 1 ≡ false → packet_in (Some (record_by number body)) ≡ None
other_number number body other =
    rw other (by_cases IsOther (eqb number 2) _ _ refl (by_cases IsOther (eqb number 3) _ _ refl
    (by_cases IsOther (eqb number 4) _ _ (none_made (λ r. Resolved r.0 r.1) (λ r. refl) (resolved_at body))
    (by_cases IsOther (nat_lt number 0x0c) _ _ (none_made (λ a. Auth a.0 a.1) (λ a. refl) (asked_at number body))
    (by_cases IsOther (eqb number 0x20) _ _ (none_made (λ kex. KexDone kex) (λ kex. refl) (string_at body))
    (by_cases IsOther (eqb number 0x21) _ _ (none_made (λ banner. AuthBanner banner) (λ banner. refl) (string_at body))
    (by_cases IsOther (eqb number 0x28) _ _ (none_made (λ o. ServerOpened o.0 o.1) (λ o. refl) (opened_at body))
    (by_cases IsOther (eqb number 0x2f) _ _ (none_made (λ keys. HostKeysAnnounced keys) (λ keys. refl) (strings_at body))
    (by_cases IsOther (nat_lt number 0x2f) _ _ (none_made (λ h. Channel h.0 h.1) (λ h. refl) (happened_at number body))
    (none_made (λ a. Agent a.0 a.1) (λ a. refl) (answer_at number body)))))))))))

-- what holds on success holds unless there is an error
pub unless_err : {A E : Type 0} (r : Result A E) (P : Type 0) → OnOk r P → is_err r ≡ false → P
unless_err (Ok x) P h fine = h
unless_err (Err e) P h fine = absurd cc
