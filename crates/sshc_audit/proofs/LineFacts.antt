-- A line among the fields of its part, and when it matches a host text.
use Rattle.std.proofs.Common.{◌≡◌, ℕ, Bool, true, false, List, [], ◌∷◌, ◌++◌, Option, Some, None, refl, ap, sym, ◌∙◌, subst, arith}
use Rattle.std.specs.Prelude.{◌==◌, ◌&&◌, ◌||◌, not, if◌then◌else◌, bytes_eq, option_map}
use Rattle.std.specs.List.{list_any, join_with_byte}
use Rattle.std.proofs.lemmas.Bool.{eqb-true}
use Rattle.std.proofs.lemmas.Bool.Decides.{nat_tests}
use Rattle.sshc_wire.specs.CasesLaws.{both_true, neither, not_true}
use Rattle.sshc_hosts.specs.declared.marks.Mark.{Mark}
use Rattle.sshc_hosts.specs.declared.marks.Mark.TheVariants.{Recorded, Revoked}
use Rattle.sshc_hosts.specs.MatchingLines.{LineKey, begins_mark, parts_at, hashed_matches, is_hashed, entry_matches, field_matches, is_comment, marked, marked_as, marked_key, revoked_mark, third_field, line_key}
use Rattle.sshc_hosts.specs.Learning.{Lacks}
use Rattle.sshc_hosts.proofs.LineLemmas.{parts_at-first, parts_at-lacking}
use Rattle.sshc_hosts.proofs.LearningLemmas.{Lacks-nothing, Lacks-cons}
use Rattle.sshc_hosts.proofs.MarkLemmas.{unmarked}
use Rattle.sshc_hosts.proofs.Base64Lemmas.{Lacks-from_test}
use Rattle.sshc_audit.specs.Lines.{Line, is_mark, line_in, line_by, line_of, mark_text}
use Rattle.sshc_audit.specs.Removing.{begins_apart, with_host}
use Rattle.sshc_audit.proofs.Parts.{EachLacks, parts_lack, parts_also_lack, parts_join}

-- ---- the fields of a line

-- the fields after the mark are those of the line
abbrev pub HasFields : Mark → List (List ℕ) → Line → Type 0
HasFields mark fields line =
    (name : List ℕ) × (later : List (List ℕ)) × (fields ≡ line.host ∷ name ∷ line.key ∷ later) × (line.rest ≡ join_with_byte 32 (name ∷ line.key ∷ later)) × (line.mark ≡ mark)

pub record IsLine (part : List ℕ) (line : Line) : Type 0 where
  pub name : List ℕ
  pub later : List (List ℕ)
  pub fields : marked (parts_at 32 part) ≡ (line.mark, line.host ∷ name ∷ line.key ∷ later)
  pub rest : line.rest ≡ join_with_byte 32 (name ∷ line.key ∷ later)
  pub no_comment : is_comment part ≡ false

in_fields : (mark : Mark) (fields : List (List ℕ)) (line : Line) → line_in mark fields ≡ Some line → HasFields mark fields line
in_fields mark [] line h = cc h
in_fields mark (host ∷ []) line h = cc h
in_fields mark (host ∷ name ∷ []) line h = cc h
in_fields mark (host ∷ name ∷ key ∷ later) line h =
    let whole : Line = record { mark = mark; host = host; key = key; rest = join_with_byte 32 (name ∷ key ∷ later) } in
    let is : whole ≡ line = cc h in
    subst (λ (l : Line). HasFields mark (host ∷ name ∷ key ∷ later) l) is (name, later, refl, refl, refl)

recorded_case : (first : List ℕ) (fields : List (List ℕ)) (line : Line) (b : Bool) → (if b then None else line_in Recorded (first ∷ fields)) ≡ Some line → HasFields Recorded (first ∷ fields) line
recorded_case first fields line true h = cc h
recorded_case first fields line false h = in_fields Recorded (first ∷ fields) line h

by_mark : (mark : Mark) (fields : List (List ℕ)) (line : Line) → line_by (mark, fields) ≡ Some line → HasFields mark fields line
by_mark Revoked fields line h = in_fields Revoked fields line h
by_mark Recorded [] line h = cc h
by_mark Recorded (first ∷ fields) line h = recorded_case first fields line (is_mark first) h

line_from : (part : List ℕ) (seen_entry : Mark × List (List ℕ)) (line : Line) → is_comment part ≡ false → marked (parts_at 32 part) ≡ seen_entry → HasFields seen_entry.0 seen_entry.1 line → IsLine part line
line_from part seen_entry line no_comment parts (name, later, is, rest, mark) = record {
  name = name;
  later = later;
  fields = parts ∙ ap (λ (fields : List (List ℕ)). (seen_entry.0, fields)) is ∙ ap (λ (m : Mark). (m, line.host ∷ name ∷ line.key ∷ later)) (sym mark);
  rest = rest;
  no_comment = no_comment;
}

comment_case : (part : List ℕ) (line : Line) (b : Bool) → is_comment part ≡ b → (if b then None else line_by (marked (parts_at 32 part))) ≡ Some line → IsLine part line
comment_case part line true e h = cc h
comment_case part line false e h =
    let seen_entry : Mark × List (List ℕ) = marked (parts_at 32 part) in
    line_from part seen_entry line e refl (by_mark seen_entry.0 seen_entry.1 line h)

pub is_line : (part : List ℕ) (line : Line) → line_of part ≡ Some line → IsLine part line
unfolding line_of
is_line part line h = comment_case part line (is_comment part) refl h

-- the fields behind the mark lack the byte
abbrev LackIt : ℕ → Mark × List (List ℕ) → Type 0
LackIt byte seen_entry = EachLacks seen_entry.1 byte

lack_case : (byte : ℕ) (first : List ℕ) (fields : List (List ℕ)) (b : Bool) → EachLacks (first ∷ fields) byte → LackIt byte (if b then (Revoked, fields) else (Recorded, first ∷ fields))
lack_case byte first fields true each = each.1
lack_case byte first fields false each = each

marked_lack : (byte : ℕ) (fields : List (List ℕ)) → EachLacks fields byte → LackIt byte (marked fields)
marked_lack byte [] each = tt
marked_lack byte (first ∷ fields) each = lack_case byte first fields (bytes_eq first revoked_mark) each

-- no field has a byte that no part of the line at spaces has
fields_lack_by : (byte : ℕ) (part : List ℕ) (line : Line) (is : IsLine part line) → EachLacks (parts_at 32 part) byte → EachLacks (line.host ∷ is.name ∷ line.key ∷ is.later) byte
fields_lack_by byte part line is each = subst (LackIt byte) is.fields (marked_lack byte (parts_at 32 part) each)

-- no field has a space
pub fields_lack : (part : List ℕ) (line : Line) (is : IsLine part line) → EachLacks (line.host ∷ is.name ∷ line.key ∷ is.later) 32
fields_lack part line is = fields_lack_by 32 part line is (parts_lack 32 part)

-- no field has a byte that the part lacks
pub fields_also_lack : (byte : ℕ) (part : List ℕ) (line : Line) (is : IsLine part line) → Lacks part byte → EachLacks (line.host ∷ is.name ∷ line.key ∷ is.later) byte
fields_also_lack byte part line is none = fields_lack_by byte part line is (parts_also_lack 32 byte part none)

pub rest_fields : (part : List ℕ) (line : Line) (is : IsLine part line) → parts_at 32 line.rest ≡ is.name ∷ line.key ∷ is.later
rest_fields part line is = ap (parts_at 32) is.rest ∙ parts_join 32 is.name (line.key ∷ is.later) (fields_lack part line is).1

-- ---- what a line matches

-- the key by the line's mark and fields
abbrev pub key_by : List ℕ → Mark → List ℕ → List ℕ → Option LineKey
key_by host mark field key = if field_matches host field then Some (marked_as mark key) else None

key_case : (mark : Mark) (key : List ℕ) (b : Bool) → option_map (marked_as mark) (if b then Some key else None) ≡ (if b then Some (marked_as mark key) else None)
key_case mark key true = refl
key_case mark key false = refl

matches_by : (host part : List ℕ) (mark : Mark) (field name key : List ℕ) (later : List (List ℕ)) → is_comment part ≡ false → marked (parts_at 32 part) ≡ (mark, field ∷ name ∷ key ∷ later)
    → line_key host part ≡ key_by host mark field key
matches_by host part mark field name key later no_comment fields =
    ap (λ (b : Bool). if b then None else marked_key host (marked (parts_at 32 part))) no_comment ∙ ap (marked_key host) fields
    ∙ key_case mark key (field_matches host field)

pub line_key_is : (host part : List ℕ) (line : Line) → IsLine part line → line_key host part ≡ key_by host line.mark line.host line.key
line_key_is host part line is = matches_by host part line.mark line.host is.name line.key is.later is.no_comment is.fields

begins_no_comment : (x : List ℕ) → begins_apart x ≡ false → is_comment x ≡ false
begins_no_comment [] h = refl
begins_no_comment (b ∷ rest) h = (neither (b == 35) (b == 64) h).0

begins_no_mark : (x : List ℕ) → begins_apart x ≡ false → begins_mark x ≡ false
begins_no_mark [] h = refl
begins_no_mark (b ∷ rest) h = (neither (b == 35) (b == 64) h).1

new_fields : (field rest name key : List ℕ) (later : List (List ℕ)) → Lacks field 32 → parts_at 32 rest ≡ name ∷ key ∷ later → parts_at 32 (field ++ 32 ∷ rest) ≡ field ∷ name ∷ key ∷ later
new_fields field rest name key later plain parts = parts_at-first 32 field rest plain ∙ ap (λ (fields : List (List ℕ)). field ∷ fields) parts

-- the key of a line with another host field, which doesn't begin a comment or a mark
new_key : (host field rest name key : List ℕ) (later : List (List ℕ)) (mark : Mark) → parts_at 32 rest ≡ name ∷ key ∷ later → Lacks field 32 → begins_apart (field ++ 32 ∷ rest) ≡ false
    → line_key host (mark_text mark ++ (field ++ 32 ∷ rest)) ≡ key_by host mark field key
new_key host field rest name key later Revoked behind plain begun =
    let line : List ℕ = mark_text Revoked ++ (field ++ 32 ∷ rest) in
    let parts : parts_at 32 line ≡ revoked_mark ∷ field ∷ name ∷ key ∷ later =
    parts_at-first 32 revoked_mark (field ++ 32 ∷ rest) (Lacks-from_test 32 revoked_mark refl)
    ∙ ap (λ (fields : List (List ℕ)). revoked_mark ∷ fields) (new_fields field rest name key later plain behind) in
    matches_by host line Revoked field name key later refl (ap marked parts)
new_key host field rest name key later Recorded behind plain begun =
    let line : List ℕ = field ++ 32 ∷ rest in
    matches_by host line Recorded field name key later (begins_no_comment line begun)
    (unmarked line (begins_no_mark line begun) ∙ ap (λ (fields : List (List ℕ)). (Recorded, fields)) (new_fields field rest name key later plain behind))

key_same : (host field other key : List ℕ) (mark : Mark) → field_matches host field ≡ field_matches host other → key_by host mark field key ≡ key_by host mark other key
key_same host field other key mark same = ap (λ (b : Bool). if b then Some (marked_as mark key) else None) same

-- another host field that matches as the old one
pub matches_as_before : (host part : List ℕ) (line : Line) (field : List ℕ) → IsLine part line → Lacks field 32 → begins_apart (field ++ 32 ∷ line.rest) ≡ false
    → field_matches host field ≡ field_matches host line.host → line_key host (with_host line field) ≡ line_key host part
matches_as_before host part line field is plain begun same =
    new_key host field line.rest is.name line.key is.later line.mark (rest_fields part line is) plain begun
    ∙ key_same host field line.host line.key line.mark same
    ∙ sym (line_key_is host part line is)

key_none : (host field key : List ℕ) (mark : Mark) → field_matches host field ≡ false → key_by host mark field key ≡ None
key_none host field key mark miss = ap (λ (b : Bool). if b then Some (marked_as mark key) else None) miss

-- a line with no entry that matches
pub line_key_none : (host part : List ℕ) (line : Line) → IsLine part line → field_matches host line.host ≡ false → line_key host part ≡ None
line_key_none host part line is miss = line_key_is host part line is ∙ key_none host line.host line.key line.mark miss

-- another host field with no entry that matches
pub with_host_none : (host part : List ℕ) (line : Line) (field : List ℕ) → IsLine part line → Lacks field 32 → begins_apart (field ++ 32 ∷ line.rest) ≡ false
    → field_matches host field ≡ false → line_key host (with_host line field) ≡ None
with_host_none host part line field is plain begun miss =
    new_key host field line.rest is.name line.key is.later line.mark (rest_fields part line is) plain begun ∙ key_none host field line.key line.mark miss

third_none : (host field : List ℕ) (fields : List (List ℕ)) → field_matches host field ≡ false → third_field host (field ∷ fields) ≡ None
third_none host field [] miss = refl
third_none host field (name ∷ []) miss = refl
third_none host field (name ∷ key ∷ later) miss = ap (λ (b : Bool). if b then Some key else None) miss

-- ---- host texts that are no marks

or_false : (b : Bool) → (b || false) ≡ b
or_false true = refl
or_false false = refl

-- a host field of one entry that isn't hashed
field_of_one : (host field : List ℕ) → Lacks field 44 → is_hashed field ≡ false → field_matches host field ≡ bytes_eq field host
field_of_one host field plain open_text =
    ap (λ (parts : List (List ℕ)). list_any (λ e. entry_matches host e) parts) (parts_at-lacking 44 field plain)
    ∙ or_false (entry_matches host field) ∙ ap (λ (b : Bool). if b then hashed_matches host (parts_at 124 field) else bytes_eq field host) open_text

or_right : (a b : Bool) → (a || b) ≡ false → b ≡ false
or_right true b h = cc h
or_right false b h = h

begins_other : (b : ℕ) → (b == 64) ≡ false → (64 == b) ≡ false
begins_other b h = grind (arith, nat_tests, h)

and_false : (a b : Bool) → a ≡ false → (a && b) ≡ false
and_false true b e = cc e
and_false false b e = refl

marks_differ : (host rest : List ℕ) → begins_apart host ≡ false → bytes_eq (64 ∷ rest) host ≡ false
marks_differ [] rest apart = refl
marks_differ (b ∷ host) rest apart = and_false (64 == b) (bytes_eq rest host) (begins_other b (or_right (b == 35) (b == 64) apart))

any_left : (a b : Bool) → (a || b) ≡ false → a ≡ false
any_left true b h = cc h
any_left false b h = refl

none_lacks : (byte : ℕ) (xs : List ℕ) → list_any (λ c. c == byte) xs ≡ false → Lacks xs byte
none_lacks byte [] h = Lacks-nothing byte
none_lacks byte (x ∷ xs) h = Lacks-cons x xs byte (any_left (x == byte) (list_any (λ c. c == byte) xs) h) (none_lacks byte xs (or_right (x == byte) (list_any (λ c. c == byte) xs) h))

hashed_begins : (b : ℕ) (rest : List ℕ) → b ≡ 64 → is_hashed (b ∷ rest) ≡ false
hashed_begins b rest is = rw is refl

mark_field : (host field : List ℕ) → begins_apart host ≡ false → is_mark field ≡ true → field_matches host field ≡ false
mark_field host [] apart h = cc h
mark_field host (b ∷ rest) apart h =
    let (first, plain) = both_true (b == 64) (not (list_any (λ c. c == 44) rest)) h in
    let is : b ≡ 64 = eqb-true b 64 first in
    let lacks : Lacks rest 44 = none_lacks 44 rest (not_true _ plain) in
    let no_comma : Lacks (b ∷ rest) 44 = Lacks-cons b rest 44 (ap (λ (x : ℕ). x == 44) is) lacks in
    field_of_one host (b ∷ rest) no_comma (hashed_begins b rest is) ∙ ap (λ (x : ℕ). bytes_eq (x ∷ rest) host) is ∙ marks_differ host rest apart

short_fields : (host : List ℕ) (mark : Mark) (fields : List (List ℕ)) → line_in mark fields ≡ None → third_field host fields ≡ None
short_fields host mark [] h = refl
short_fields host mark (first ∷ []) h = refl
short_fields host mark (first ∷ name ∷ []) h = refl
short_fields host mark (first ∷ name ∷ key ∷ later) h = cc h

no_line_recorded : (host first : List ℕ) (fields : List (List ℕ)) (b : Bool) → begins_apart host ≡ false → is_mark first ≡ b
    → (if b then None else line_in Recorded (first ∷ fields)) ≡ None → third_field host (first ∷ fields) ≡ None
no_line_recorded host first fields true apart e h = third_none host first fields (mark_field host first apart e)
no_line_recorded host first fields false apart e h = short_fields host Recorded (first ∷ fields) h

no_line_marked : (host : List ℕ) (mark : Mark) (fields : List (List ℕ)) → begins_apart host ≡ false → line_by (mark, fields) ≡ None → third_field host fields ≡ None
no_line_marked host Revoked fields apart h = short_fields host Revoked fields h
no_line_marked host Recorded [] apart h = refl
no_line_marked host Recorded (first ∷ fields) apart h = no_line_recorded host first fields (is_mark first) apart refl h

no_line_case : (host part : List ℕ) (b : Bool) → begins_apart host ≡ false → (if b then None else line_by (marked (parts_at 32 part))) ≡ None
    → (if b then None else marked_key host (marked (parts_at 32 part))) ≡ None
no_line_case host part true apart h = refl
no_line_case host part false apart h =
    let seen_entry : Mark × List (List ℕ) = marked (parts_at 32 part) in
    ap (option_map (marked_as seen_entry.0)) (no_line_marked host seen_entry.0 seen_entry.1 apart h)

-- a part that is no line matches no host text that begins neither with `#` nor with `@`
pub no_line_key : (host part : List ℕ) → begins_apart host ≡ false → line_of part ≡ None → line_key host part ≡ None
unfolding line_of
no_line_key host part apart h = no_line_case host part (is_comment part) apart h
