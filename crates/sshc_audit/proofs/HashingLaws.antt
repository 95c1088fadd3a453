-- How hashing names affects the verdicts.
use Rattle.std.proofs.Common.{◌≡◌, ℕ, zero, suc, ◌+◌, ◌≤◌, Bool, true, false, List, [], ◌∷◌, ◌++◌, length, drop, Option, Some, None, refl, ap, sym, ◌∙◌, arith}
use Rattle.std.specs.Prelude.{◌==◌, ◌||◌, if◌then◌else◌, option_map}
use Rattle.std.specs.List.{list_any, join_with_byte, flat_map, cons_option, AllByRecursion}
use Rattle.std.proofs.lemmas.List.Splits.{length-slice_split}
use Rattle.base64.specs.GeneralPurpose.{encode_of, IsBytes}
use Rattle.base64.specs.Engines.{standard}
use Rattle.sshc_key.specs.KeyGrammar.{Key}
use Rattle.sshc_hosts.specs.MatchingLines.{LineKey, parts_at, entry_matches, field_matches, line_key, matching}
use Rattle.sshc_hosts.specs.Judgement.{marked_keys, read_lines, judged_by, judged}
use Rattle.sshc_hosts.specs.Learning.{Lacks}
use Rattle.sshc_hosts.proofs.Base64Lemmas.{base64_no_space, base64_no_line_feed}
use Rattle.sshc_audit.specs.Lines.{Line, line_of}
use Rattle.sshc_audit.specs.Removing.{begins_apart, with_host}
use Rattle.sshc_audit.specs.Salts.{SaltState, IsSalt, Took}
use Rattle.sshc_audit.specs.Hashing.{hashed_entry, is_name, first_salt, with_salts, total, entry_needs, hashed_or_same, salted_entry, entries_of, part_needs, hashed_field, hashed_line, hashed_part, salted_part, names_of, hashed_text, salted_names, IsAlone, MatchesByHash, Hashes}
use Rattle.sshc_audit.proofs.Parts.{EachLacks, parts_lack, parts_also_lack, join_lacks}
use Rattle.sshc_audit.proofs.Following.{numbered}
use Rattle.sshc_audit.proofs.LineFacts.{IsLine, is_line, fields_lack, matches_as_before}
use Rattle.sshc_audit.proofs.Agreement.{matching_case}
use Rattle.sshc_audit.proofs.RemovingLaws.{apart_join, joined_matches, line_lacks, new_line_lacks}
use Rattle.sshc_audit.proofs.HashedEntries.{hashed_matches_by, hashed_as_before, hashed_lacks, comma_lacks, no_name_apart}

-- ---- at least as many salts as are needed

pub record AreSalts (salts : List (List ℕ)) (count : ℕ) : Type 0 where
  pub sized : AllByRecursion IsSalt salts
  pub many : count ≤ length salts

sized_drop : (n : ℕ) (salts : List (List ℕ)) → AllByRecursion IsSalt salts → AllByRecursion IsSalt (drop n salts)
sized_drop zero salts sized = sized
sized_drop (suc n) [] sized = tt
sized_drop (suc n) (salt ∷ salts) sized = sized_drop n salts sized.1

drop_many : (n m : ℕ) (salts : List (List ℕ)) → n + m ≤ length salts → m ≤ length (drop n salts)
drop_many zero m salts e = omega (arith, e)
drop_many (suc n) m [] e = absurd (omega (arith, e))
drop_many (suc n) m (salt ∷ salts) e = drop_many n m salts (omega (arith, e))

pub other_salts : (n m : ℕ) (salts : List (List ℕ)) → AreSalts salts (n + m) → AreSalts (drop n salts) m
other_salts n m salts are = record { sized = sized_drop n salts are.sized; many = drop_many n m salts are.many }

front_salts : (n m : ℕ) (salts : List (List ℕ)) → AreSalts salts (n + m) → AreSalts salts n
front_salts n m salts are = record { sized = are.sized; many = omega (arith, are.many) }

first_bytes : (n : ℕ) (salts : List (List ℕ)) → AreSalts salts (1 + n) → IsBytes (first_salt salts)
first_bytes n [] are = absurd (omega (arith, are.many))
first_bytes n (salt ∷ salts) are = are.sized.0.1

alone_front : (host : List ℕ) (xs ys : List (List ℕ × List ℕ)) → IsAlone host (xs ++ ys) → IsAlone host xs
alone_front host [] ys alone = tt
alone_front host (x ∷ xs) ys alone = (alone.0, alone_front host xs ys alone.1)

alone_back : (host : List ℕ) (xs ys : List (List ℕ × List ℕ)) → IsAlone host (xs ++ ys) → IsAlone host ys
alone_back host [] ys alone = alone
alone_back host (x ∷ xs) ys alone = alone_back host xs ys alone.1

both_match : (xs ys : List (List ℕ × List ℕ)) → MatchesByHash xs → MatchesByHash ys → MatchesByHash (xs ++ ys)
both_match [] ys h k = k
both_match (x ∷ xs) ys h k = (h.0, both_match xs ys h.1 k)

-- ---- entries

abbrev pub salted_entries : List (List ℕ) → List (List ℕ) → List (List ℕ × List ℕ)
salted_entries salts entries = flat_map (λ named. named) (with_salts entry_needs salted_entry salts entries)

abbrev pub hashed_entries : List (List ℕ) → List (List ℕ) → List (List ℕ)
hashed_entries salts entries = with_salts entry_needs hashed_or_same salts entries

entry_case : (host entry : List ℕ) (salts : List (List ℕ)) (n : ℕ) (b : Bool) → is_name entry ≡ b → AreSalts salts ((if b then 1 else 0) + n)
    → IsAlone host (if b then (first_salt salts, entry) ∷ [] else []) → entry_matches host (if b then hashed_entry (first_salt salts) entry else entry) ≡ entry_matches host entry
entry_case host entry salts n true e are alone = hashed_as_before host (first_salt salts) entry (first_bytes n salts are) e alone.0
entry_case host entry salts n false e are alone = refl

entries_match : (host : List ℕ) (salts entries : List (List ℕ)) → AreSalts salts (total entry_needs entries) → IsAlone host (salted_entries salts entries)
    → list_any (λ e. entry_matches host e) (hashed_entries salts entries) ≡ list_any (λ e. entry_matches host e) entries
entries_match host salts [] are alone = refl
entries_match host salts (entry ∷ entries) are alone =
    let rest : List (List ℕ) = drop (entry_needs entry) salts in
    let first : entry_matches host (hashed_or_same salts entry) ≡ entry_matches host entry =
    entry_case host entry salts (total entry_needs entries) (is_name entry) refl are (alone_front host (salted_entry salts entry) (salted_entries rest entries) alone) in
    ap (λ (b : Bool). b || list_any (λ e. entry_matches host e) (hashed_entries rest entries)) first
    ∙ ap (λ (b : Bool). entry_matches host entry || b)
    (entries_match host rest entries (other_salts (entry_needs entry) (total entry_needs entries) salts are) (alone_back host (salted_entry salts entry) (salted_entries rest entries) alone))

entry_by_hash : (entry : List ℕ) (salts : List (List ℕ)) (n : ℕ) (b : Bool) → is_name entry ≡ b → AreSalts salts ((if b then 1 else 0) + n)
    → MatchesByHash (if b then (first_salt salts, entry) ∷ [] else [])
entry_by_hash entry salts n true e are = (λ host. hashed_matches_by host (first_salt salts) entry (first_bytes n salts are), tt)
entry_by_hash entry salts n false e are = tt

entries_by_hash : (salts entries : List (List ℕ)) → AreSalts salts (total entry_needs entries) → MatchesByHash (salted_entries salts entries)
entries_by_hash salts [] are = tt
entries_by_hash salts (entry ∷ entries) are =
    both_match (salted_entry salts entry) (salted_entries (drop (entry_needs entry) salts) entries) (entry_by_hash entry salts (total entry_needs entries) (is_name entry) refl are)
    (entries_by_hash (drop (entry_needs entry) salts) entries (other_salts (entry_needs entry) (total entry_needs entries) salts are))

-- bytes that base64 and the rest of a hashed entry lack
pub record IsApart (byte : ℕ) : Type 0 where
  pub bar : (124 == byte) ≡ false
  pub one : (49 == byte) ≡ false
  pub base64 : (m : List ℕ) → Lacks (encode_of standard m) byte

lack_case : (byte : ℕ) (salts : List (List ℕ)) (entry : List ℕ) (b : Bool) → IsApart byte → Lacks entry byte → Lacks (if b then hashed_entry (first_salt salts) entry else entry) byte
lack_case byte salts entry true apart none = hashed_lacks (first_salt salts) entry byte apart.bar apart.one apart.base64
lack_case byte salts entry false apart none = none

hashed_lack : (byte : ℕ) (salts entries : List (List ℕ)) → IsApart byte → EachLacks entries byte → EachLacks (hashed_entries salts entries) byte
hashed_lack byte salts [] apart each = tt
hashed_lack byte salts (entry ∷ entries) apart each =
    (lack_case byte salts entry (is_name entry) apart each.0, hashed_lack byte (drop (entry_needs entry) salts) entries apart each.1)

comma_apart : IsApart 44
comma_apart = record { bar = refl; one = refl; base64 = comma_lacks }

space_apart : IsApart 32
space_apart = record { bar = refl; one = refl; base64 = base64_no_space }

feed_apart : IsApart 10
feed_apart = record { bar = refl; one = refl; base64 = base64_no_line_feed }

apart_case : (salts : List (List ℕ)) (entry : List ℕ) (b : Bool) → is_name entry ≡ b → begins_apart (if b then hashed_entry (first_salt salts) entry else entry) ≡ false
apart_case salts entry true e = refl
apart_case salts entry false e = no_name_apart entry e

-- ---- a host field

-- the new host field for these entries
pub record HashedField (host field rest hashed : List ℕ) : Type 0 where
  pub space : Lacks hashed 32
  pub begun : begins_apart (hashed ++ 32 ∷ rest) ≡ false
  pub matches : field_matches host hashed ≡ field_matches host field

some_part : (c : ℕ) (xs : List ℕ) → parts_at c xs ≡ [] → ⊥
some_part c xs is = let none : length (parts_at c xs) ≡ 0 = ap length is in omega (arith, none, length-slice_split (λ b. b == c) xs)

field_by : (host field rest : List ℕ) (salts entries : List (List ℕ)) → parts_at 44 field ≡ entries → EachLacks entries 44 → EachLacks entries 32
    → AreSalts salts (total entry_needs entries) → IsAlone host (salted_entries salts entries) → HashedField host field rest (join_with_byte 44 (hashed_entries salts entries))
field_by host field rest salts [] is comma space are alone = absurd (some_part 44 field is)
field_by host field rest salts (entry ∷ entries) is comma space are alone =
    let later : List (List ℕ) = drop (entry_needs entry) salts in record {
      space = join_lacks 44 32 (hashed_entries salts (entry ∷ entries)) refl (hashed_lack 32 salts (entry ∷ entries) space_apart space);
      begun = apart_join (hashed_or_same salts entry) (hashed_entries later entries) rest (apart_case salts entry (is_name entry) refl);
      matches = joined_matches host (hashed_or_same salts entry) (hashed_entries later entries) (hashed_lack 44 salts (entry ∷ entries) comma_apart comma)
          ∙ entries_match host salts (entry ∷ entries) are alone ∙ ap (λ (es : List (List ℕ)). list_any (λ e. entry_matches host e) es) (sym is);
    }

-- ---- a part

line_same : (host part : List ℕ) (line : Line) (salts : List (List ℕ)) → IsLine part line → AreSalts salts (total entry_needs (parts_at 44 line.host)) → IsAlone host (salted_entries salts (parts_at 44 line.host))
    → line_key host (with_host line (hashed_field salts line.host)) ≡ line_key host part
line_same host part line salts is are alone =
    let field : HashedField host line.host line.rest (hashed_field salts line.host) =
    field_by host line.host line.rest salts (parts_at 44 line.host) refl (parts_lack 44 line.host) (parts_also_lack 44 32 line.host (fields_lack part line is).0) are alone in
    matches_as_before host part line (hashed_field salts line.host) is field.space field.begun field.matches

part_case : (host part : List ℕ) (salts : List (List ℕ)) (o : Option Line) → line_of part ≡ o → AreSalts salts (total entry_needs (entries_of o)) → IsAlone host (salted_entries salts (entries_of o))
    → line_key host (hashed_line salts part o) ≡ line_key host part
part_case host part salts None is are alone = refl
part_case host part salts (Some line) is are alone = line_same host part line salts (is_line part line is) are alone

lacks_case : (part : List ℕ) (salts : List (List ℕ)) (o : Option Line) → line_of part ≡ o → Lacks part 10 → Lacks (hashed_line salts part o) 10
lacks_case part salts None is none = none
lacks_case part salts (Some line) is none =
    let both = line_lacks 10 part line refl (is_line part line is) none in
    new_line_lacks line (hashed_field salts line.host)
    (join_lacks 44 10 (hashed_entries salts (parts_at 44 line.host)) refl (hashed_lack 10 salts (parts_at 44 line.host) feed_apart (parts_also_lack 44 10 line.host both.0))) both.1

-- ---- all parts

parts_lack_feeds : (salts parts : List (List ℕ)) → EachLacks parts 10 → EachLacks (with_salts part_needs hashed_part salts parts) 10
parts_lack_feeds salts [] each = tt
parts_lack_feeds salts (part ∷ parts) each = (lacks_case part salts (line_of part) refl each.0, parts_lack_feeds (drop (part_needs part) salts) parts each.1)

one_line : (n : ℕ) (o o' : Option LineKey) (xs ys : List (ℕ × LineKey)) → o ≡ o' → xs ≡ ys → cons_option (option_map (λ key. (n, key)) o) xs ≡ cons_option (option_map (λ key. (n, key)) o') ys
one_line n o o' xs ys same rest = ap (λ (k : Option LineKey). cons_option (option_map (λ key. (n, key)) k) xs) same ∙ ap (cons_option (option_map (λ key. (n, key)) o')) rest

parts_match : (host : List ℕ) (n : ℕ) (salts parts : List (List ℕ)) → AreSalts salts (total part_needs parts) → IsAlone host (flat_map (λ named. named) (with_salts part_needs salted_part salts parts))
    → numbered host n (with_salts part_needs hashed_part salts parts) ≡ numbered host n parts
parts_match host n salts [] are alone = refl
parts_match host n salts (part ∷ parts) are alone =
    let rest : List (List ℕ) = drop (part_needs part) salts in
    let others : List (List ℕ × List ℕ) = flat_map (λ named. named) (with_salts part_needs salted_part rest parts) in
    one_line n (line_key host (hashed_part salts part)) (line_key host part) _ _
    (part_case host part salts (line_of part) refl (front_salts (part_needs part) (total part_needs parts) salts are) (alone_front host (salted_part salts part) others alone))
    (parts_match host (n + 1) rest parts (other_salts (part_needs part) (total part_needs parts) salts are) (alone_back host (salted_part salts part) others alone))

part_by_hash : (salts : List (List ℕ)) (o : Option Line) → AreSalts salts (total entry_needs (entries_of o)) → MatchesByHash (salted_entries salts (entries_of o))
part_by_hash salts o are = entries_by_hash salts (entries_of o) are

parts_by_hash : (salts parts : List (List ℕ)) → AreSalts salts (total part_needs parts) → MatchesByHash (flat_map (λ named. named) (with_salts part_needs salted_part salts parts))
parts_by_hash salts [] are = tt
parts_by_hash salts (part ∷ parts) are =
    both_match (salted_part salts part) (flat_map (λ named. named) (with_salts part_needs salted_part (drop (part_needs part) salts) parts))
    (part_by_hash salts (line_of part) (front_salts (part_needs part) (total part_needs parts) salts are))
    (parts_by_hash (drop (part_needs part) salts) parts (other_salts (part_needs part) (total part_needs parts) salts are))

-- the judgement for a host text that shares its HMAC with no other name is as it was
pub hashed_judged : (text : List ℕ) (salts : List (List ℕ)) (host : List ℕ) (key : Key) → AreSalts salts (names_of text) → IsAlone host (salted_names text salts)
    → judged (hashed_text text salts) host key ≡ judged text host key
unfolding judged marked_keys
hashed_judged text salts host key are alone =
    let lines : matching (hashed_text text salts) host ≡ matching text host =
    matching_case (with_salts part_needs hashed_part salts (parts_at 10 text)) host (parts_lack_feeds salts (parts_at 10 text) (parts_lack 10 text))
    ∙ parts_match host 1 salts (parts_at 10 text) are alone in
    ap (λ (found : List (ℕ × LineKey)). judged_by (read_lines found) key) lines

-- all that holds of a text whose names were hashed with these salts
pub hashes : (text : List ℕ) (before after : SaltState) (salts : List (List ℕ)) (new : List ℕ) → Took before after salts → length salts ≡ names_of text → new ≡ hashed_text text salts
    → Hashes text before after new
hashes text before after salts new took count is =
    let are : AreSalts salts (names_of text) = record { sized = took.sized; many = omega (arith, count) } in record {
      salts = salts;
      took = took;
      count = count;
      text = is;
      entries = parts_by_hash salts (parts_at 10 text) are;
      verdicts = λ host key alone. ap (λ (t : List ℕ). judged t host key) is ∙ hashed_judged text salts host key are alone;
    }
