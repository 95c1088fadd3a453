-- A prefix of a line, after the lines before it.
use Rattle.std.proofs.Common.{◌≡◌, ℕ, zero, suc, ◌+◌, ◌<◌, List, [], ◌∷◌, ◌++◌, length, take, drop, get_or, slice_get, refl, ap, sym, subst, ◌∙◌, Option, Some, None, arith}
use Rattle.std.specs.Option.{option_map}
use Rattle.std.proofs.lemmas.List.{take-append-drop, take_more}
use Rattle.std.proofs.lemmas.List.Concat.{flat_map-append}
use Rattle.sshc_wire.specs.Records.{record_text}
use Rattle.sshc_wire.specs.Outgoing.{text_in}
use Rattle.sshc_wire.specs.ContentsLaws.{wrote_more}
use Rattle.sshc_wire.specs.DigitLines.{text_line}
use Rattle.sshc_run_script.proofs.RunNames.{append-nil, Record, append, WroteFront, append-append, append-nothing, line, lines}

-- the line of a text that an outbox lends, and of none
pub lent_line : (o : Option Record) (t made : List ℕ) → Some t ≡ option_map record_text o → made ≡ text_line t → made ≡ text_line (text_in o)
lent_line None t made lent is = absurd cc
lent_line (Some r) t made lent is = is ∙ ap text_line (let same : t ≡ record_text r = cc in same)

pub no_line : (o : Option Record) (made : List ℕ) → None ≡ option_map record_text o → made ≡ text_line [] → made ≡ text_line (text_in o)
no_line None made lent is = is
no_line (Some r) made lent is = absurd cc

lines_split : (rs : List Record) (i : ℕ) (r : Record) → i < length rs → r ≡ get_or rs i r → lines rs ≡ lines (take i rs) ++ line r ++ lines (drop (i + 1) rs)
lines_split rs i r lt is =
    let more : take (i + 1) rs ≡ take i rs ++ r ∷ [] = take_more rs i r lt ∙ ap (λ x. take i rs ++ x ∷ []) (sym is) in
    let whole : rs ≡ take i rs ++ r ∷ [] ++ drop (i + 1) rs = sym (take-append-drop (i + 1) rs) ∙ ap (λ xs. xs ++ drop (i + 1) rs) more in
    ap lines whole ∙ flat_map-append line (take i rs ++ r ∷ []) (drop (i + 1) rs) ∙ ap (λ t. t ++ lines (drop (i + 1) rs)) (flat_map-append line (take i rs) (r ∷ []))
    ∙ ap (λ t. lines (take i rs) ++ t ++ lines (drop (i + 1) rs)) (append-nil (line r))

-- all of a text is written, or nothing
pub wrote_all : (held now : Option (List ℕ)) (whole : List ℕ) → now ≡ append held whole → WroteFront held now whole
wrote_all held now whole all = (whole, [], sym (append-nil whole), all)

pub wrote_nothing : (held : Option (List ℕ)) (whole : List ℕ) → WroteFront held held whole
wrote_nothing held whole = ([], whole, refl, sym (append-nothing held))

-- the record at a place
get_is : (rs : List Record) (i : ℕ) → i < length rs → (r : Record) × (slice_get rs i ≡ Some r) × (r ≡ get_or rs i r)
get_is [] i lt = absurd (omega arith)
get_is (r ∷ rs) zero lt = (r, refl, refl)
get_is (r ∷ rs) (suc i) lt = get_is rs i (omega arith)

line_at : (rs : List Record) (i : ℕ) (r : Record) → slice_get rs i ≡ Some r → text_line (text_in (slice_get rs i)) ≡ line r
line_at rs i r is = ap (λ (o : Option Record). text_line (text_in o)) is

pub cut_line_at : (rs : List Record) (i : ℕ) (a b c : Option (List ℕ)) → i < length rs →
    b ≡ append a (lines (take i rs)) → WroteFront b c (text_line (text_in (slice_get rs i))) → WroteFront a c (lines rs)
cut_line_at rs i a b c lt first cut =
    let r = get_is rs i lt in
    rw (lines_split rs i r.0 lt r.2)
    (wrote_more a b c (lines (take i rs)) (line r.0) (lines (drop (i + 1) rs)) first (subst (λ (t : List ℕ). WroteFront b c t) (line_at rs i r.0 r.1) cut))

-- one line more
pub next_line_at : (rs : List Record) (i : ℕ) (a b c : Option (List ℕ)) → i < length rs →
    b ≡ append a (lines (take i rs)) → c ≡ append b (text_line (text_in (slice_get rs i))) → c ≡ append a (lines (take (i + 1) rs))
next_line_at rs i a b c lt first more =
    let r = get_is rs i lt in
    let one : lines (take (i + 1) rs) ≡ lines (take i rs) ++ line r.0 =
    ap lines (take_more rs i r.0 lt ∙ ap (λ x. take i rs ++ x ∷ []) (sym r.2)) ∙ flat_map-append line (take i rs) (r.0 ∷ []) ∙ ap (λ t. lines (take i rs) ++ t) (append-nil (line r.0))
    in
    more ∙ ap (append b) (line_at rs i r.0 r.1) ∙ ap (λ o. append o (line r.0)) first ∙ append-append a (lines (take i rs)) (line r.0) ∙ ap (append a) (sym one)
