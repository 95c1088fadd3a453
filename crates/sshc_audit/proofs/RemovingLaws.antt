-- How removing a host affects the verdicts.
use Rattle.std.proofs.Common.{◌≡◌, ℕ, ◌+◌, Bool, true, false, List, [], ◌∷◌, ◌++◌, Option, Some, None, Result, Ok, refl, ap, sym, ◌∙◌, subst}
use Rattle.std.specs.Prelude.{◌==◌, ◌||◌, not, if◌then◌else◌, map, filter, option_map}
use Rattle.std.specs.List.{list_any, list_all, join_with_byte, flat_map, cons_option}
use Rattle.sshc_wire.specs.CasesLaws.{both_false, both_true, neither, not_true}
use Rattle.sshc_key.specs.KeyGrammar.{Key}
use Rattle.sshc_key.specs.declared.error.Error.{Error}
use Rattle.sshc_hosts.specs.declared.marks.Mark.{Mark}
use Rattle.sshc_hosts.specs.declared.marks.Mark.TheVariants.{Recorded, Revoked}
use Rattle.sshc_hosts.specs.MatchingLines.{LineKey, parts_at, entry_matches, field_matches, line_key, matching}
use Rattle.sshc_hosts.specs.Judgement.{is_certificate, marked_keys, judged}
use Rattle.sshc_hosts.specs.Learning.{Lacks}
use Rattle.sshc_hosts.proofs.LearningLemmas.{Lacks-append, Lacks-cons}
use Rattle.sshc_hosts.proofs.Base64Lemmas.{Lacks-from_test}
use Rattle.sshc_audit.specs.Lines.{Line, line_of, mark_text}
use Rattle.sshc_audit.specs.Rewriting.{Change, left, rewritten, Agrees}
use Rattle.sshc_audit.specs.Removing.{begins_apart, stays, entries, with_host, joined_entries, part_by, part_without, removes_host, lost_entries, removed_entries, NoneMatches}
use Rattle.sshc_audit.proofs.Parts.{EachLacks, parts_lack, parts_also_lack, parts_join, join_lacks}
use Rattle.sshc_audit.proofs.Following.{numbered, parts_of, IsAmong, Follows}
use Rattle.sshc_audit.proofs.LineFacts.{IsLine, is_line, fields_lack, fields_also_lack, matches_as_before, with_host_none, line_key_none, no_line_key}
use Rattle.sshc_audit.proofs.Agreement.{agrees, matching_rewritten}

-- ---- filters

module _ (p q : List ℕ → Bool) where
  stay_case : (x : List ℕ) (xs : List (List ℕ)) (b : Bool) → q x ≡ b → list_any p (if not b then x ∷ filter (λ y. not (q y)) xs else filter (λ y. not (q y)) xs) ≡ false
      → (list_any p (filter (λ y. not (q y)) xs) ≡ false → list_any p (filter q xs) ≡ list_any p xs)
      → list_any p (if b then x ∷ filter q xs else filter q xs) ≡ (p x || list_any p xs)
  stay_case x xs true e h later = ap (λ (b : Bool). p x || b) (later h)
  stay_case x xs false e h later =
      let (miss, none) = neither (p x) (list_any p (filter (λ y. not (q y)) xs)) h in
      later none ∙ ap (λ (b : Bool). b || list_any p xs) (sym miss)

  -- whether any element passes p depends only on those that pass q, if no element that fails q passes p
  any_staying : (xs : List (List ℕ)) → list_any p (filter (λ y. not (q y)) xs) ≡ false → list_any p (filter q xs) ≡ list_any p xs
  any_staying [] h = refl
  any_staying (x ∷ xs) h = stay_case x xs (q x) refl h (any_staying xs)

filter_lacks : (q : List ℕ → Bool) (byte : ℕ) (x : List ℕ) (xs : List (List ℕ)) (b : Bool) → Lacks x byte → EachLacks xs byte → EachLacks (if b then x ∷ xs else xs) byte
filter_lacks q byte x xs true one each = (one, each)
filter_lacks q byte x xs false one each = each

staying_lack : (q : List ℕ → Bool) (byte : ℕ) (xs : List (List ℕ)) → EachLacks xs byte → EachLacks (filter q xs) byte
staying_lack q byte [] each = tt
staying_lack q byte (x ∷ xs) each = filter_lacks q byte x (filter q xs) (q x) each.0 (staying_lack q byte xs each.1)

pass_case : (q : List ℕ → Bool) (x : List ℕ) (xs : List (List ℕ)) (b : Bool) → q x ≡ b → list_all q xs ≡ true → list_all q (if b then x ∷ xs else xs) ≡ true
pass_case q x xs true e h = rw e h
pass_case q x xs false e h = h

all_pass : (q : List ℕ → Bool) (xs : List (List ℕ)) → list_all q (filter q xs) ≡ true
all_pass q [] = refl
all_pass q (x ∷ xs) = pass_case q x (filter q xs) (q x) refl (all_pass q xs)

-- ---- the new host field

-- a host field begins as the first of its entries does
pub apart_join : (x : List ℕ) (xs : List (List ℕ)) (rest : List ℕ) → begins_apart x ≡ false → begins_apart (join_with_byte 44 (x ∷ xs) ++ 32 ∷ rest) ≡ false
apart_join [] [] rest h = refl
apart_join [] (y ∷ ys) rest h = refl
apart_join (b ∷ x) [] rest h = h
apart_join (b ∷ x) (y ∷ ys) rest h = h

pub joined_matches : (host x : List ℕ) (xs : List (List ℕ)) → EachLacks (x ∷ xs) 44 → field_matches host (join_with_byte 44 (x ∷ xs)) ≡ list_any (λ e. entry_matches host e) (x ∷ xs)
joined_matches host x xs each = ap (λ (parts : List (List ℕ)). list_any (λ e. entry_matches host e) parts) (parts_join 44 x xs each)

-- entries of a line
pub record AreEntries (xs : List (List ℕ)) : Type 0 where
  pub comma : EachLacks xs 44
  pub space : EachLacks xs 32

pub line_entries : (part : List ℕ) (line : Line) → IsLine part line → AreEntries (parts_at 44 line.host)
line_entries part line is = record { comma = parts_lack 44 line.host; space = parts_also_lack 44 32 line.host (fields_lack part line is).0 }

kept_entries : (q : List ℕ → Bool) (xs : List (List ℕ)) → AreEntries xs → AreEntries (filter q xs)
kept_entries q xs are = record { comma = staying_lack q 44 xs are.comma; space = staying_lack q 32 xs are.space }

-- a line lacks what its part lacks
pub line_lacks : (byte : ℕ) (part : List ℕ) (line : Line) → (32 == byte) ≡ false → IsLine part line → Lacks part byte → Lacks line.host byte × Lacks line.rest byte
line_lacks byte part line apart is none =
    let each : EachLacks (line.host ∷ is.name ∷ line.key ∷ is.later) byte = fields_also_lack byte part line is none in
    (each.0, subst (λ (rest : List ℕ). Lacks rest byte) (sym is.rest) (join_lacks 32 byte (is.name ∷ line.key ∷ is.later) apart each.1))

mark_lacks : (mark : Mark) → Lacks (mark_text mark) 10
mark_lacks Recorded = Lacks-from_test 10 [] refl
mark_lacks Revoked = Lacks-from_test 10 (mark_text Revoked) refl

pub new_line_lacks : (line : Line) (field : List ℕ) → Lacks field 10 → Lacks line.rest 10 → Lacks (with_host line field) 10
new_line_lacks line field one rest =
    Lacks-append (mark_text line.mark) (field ++ 32 ∷ line.rest) 10 (mark_lacks line.mark) (Lacks-append field (32 ∷ line.rest) 10 one (Lacks-cons 32 line.rest 10 refl rest))

module _ (host : List ℕ) where
  -- the first entry that stays begins neither a comment nor a mark
  first_stays : (x : List ℕ) (xs all : List (List ℕ)) → filter (stays host) all ≡ x ∷ xs → begins_apart x ≡ false
  first_stays x xs all is =
      let passes : list_all (stays host) (x ∷ xs) ≡ true = subst (λ (es : List (List ℕ)). list_all (stays host) es ≡ true) is (all_pass (stays host) all) in
      let (stay, others) = both_true (stays host x) (list_all (stays host) xs) passes in
      let (miss, apart) = both_true (not (entry_matches host x)) (not (begins_apart x)) stay in
      not_true (begins_apart x) apart

  stays_none : (x : List ℕ) → stays host x ≡ true → entry_matches host x ≡ false
  stays_none x h = not_true (entry_matches host x) (both_true (not (entry_matches host x)) (not (begins_apart x)) h).0

  none_case : (x : List ℕ) (xs : List (List ℕ)) (b : Bool) → stays host x ≡ b → list_any (λ e. entry_matches host e) xs ≡ false
      → list_any (λ e. entry_matches host e) (if b then x ∷ xs else xs) ≡ false
  none_case x xs true e h = both_false (entry_matches host x) (list_any (λ e. entry_matches host e) xs) (stays_none x e) h
  none_case x xs false e h = h

  -- no entry that stays is the host
  none_stays : (xs : List (List ℕ)) → list_any (λ e. entry_matches host e) (filter (stays host) xs) ≡ false
  none_stays [] = refl
  none_stays (x ∷ xs) = none_case x (filter (stays host) xs) (stays host x) refl (none_stays xs)

  -- ---- another host text

  module _ (other : List ℕ) where
    kept_case : (part : List ℕ) (line : Line) (seen : List LineKey) (changes : List Change) (kept : List (List ℕ)) → IsLine part line → filter (stays host) (entries line) ≡ kept
        → list_any (λ e. entry_matches other e) kept ≡ field_matches other line.host → ((more : List LineKey) → Follows other more changes)
        → Follows other seen ((part, option_map (with_host line) (joined_entries kept)) ∷ changes)
    kept_case part line seen changes [] is some same later =
        (subst (λ (o : Option LineKey). IsAmong o seen) (sym (line_key_none other part line is (sym same))) tt, later seen)
    kept_case part line seen changes (x ∷ xs) is some same later =
        let are : AreEntries (x ∷ xs) = subst AreEntries some (kept_entries (stays host) (entries line) (line_entries part line is)) in (
          matches_as_before other part line (join_with_byte 44 (x ∷ xs)) is (join_lacks 44 32 (x ∷ xs) refl are.space)
              (apart_join x xs line.rest (first_stays x xs (entries line) some)) (joined_matches other x xs are.comma ∙ same),
          later _,
        )

    line_case : (part : List ℕ) (line : Line) (seen : List LineKey) (changes : List Change) (b : Bool) → IsLine part line
        → NoneMatches other (if b then filter (λ e. not (stays host e)) (entries line) else []) → ((more : List LineKey) → Follows other more changes)
        → Follows other seen ((part, if b then option_map (with_host line) (joined_entries (filter (stays host) (entries line))) else Some part) ∷ changes)
    line_case part line seen changes false is none later = (refl, later _)
    line_case part line seen changes true is none later =
        kept_case part line seen changes (filter (stays host) (entries line)) is refl (any_staying (λ e. entry_matches other e) (stays host) (entries line) none) later

    part_case : (part : List ℕ) (seen : List LineKey) (changes : List Change) (o : Option Line) → line_of part ≡ o → NoneMatches other (lost_entries host o)
        → ((more : List LineKey) → Follows other more changes) → Follows other seen ((part, part_by host part o) ∷ changes)
    part_case part seen changes None is none later = (refl, later _)
    part_case part seen changes (Some line) is none later = line_case part line seen changes (field_matches host line.host) (is_line part line is) none later

    any_append : (xs ys : List (List ℕ)) → list_any (λ e. entry_matches other e) (xs ++ ys) ≡ false → NoneMatches other xs × NoneMatches other ys
    any_append [] ys h = (refl, h)
    any_append (x ∷ xs) ys h =
        let (miss, none) = neither (entry_matches other x) (list_any (λ e. entry_matches other e) (xs ++ ys)) h in
        let (front, back) = any_append xs ys none in
        (both_false (entry_matches other x) (list_any (λ e. entry_matches other e) xs) miss front, back)

    removed_follows : (parts : List (List ℕ)) (seen : List LineKey) → NoneMatches other (flat_map (λ part. lost_entries host (line_of part)) parts)
        → Follows other seen (map (λ part. (part, part_without host part)) parts)
    removed_follows [] seen none = tt
    removed_follows (part ∷ parts) seen none =
        let (one, others) = any_append (lost_entries host (line_of part)) (flat_map (λ p. lost_entries host (line_of p)) parts) none in
        part_case part seen (map (λ p. (p, part_without host p)) parts) (line_of part) refl one (λ more. removed_follows parts more others)

  -- ---- the host itself

  module _ (apart : begins_apart host ≡ false) where
    gone_kept : (part : List ℕ) (line : Line) (kept : List (List ℕ)) → IsLine part line → filter (stays host) (entries line) ≡ kept
        → list_any (λ e. entry_matches host e) kept ≡ false
        → (text : List ℕ) → option_map (with_host line) (joined_entries kept) ≡ Some text → line_key host text ≡ None
    gone_kept part line [] is some none text h = cc h
    gone_kept part line (x ∷ xs) is some none text h =
        let are : AreEntries (x ∷ xs) = subst AreEntries some (kept_entries (stays host) (entries line) (line_entries part line is)) in
        let now : with_host line (join_with_byte 44 (x ∷ xs)) ≡ text = cc h in
        subst (λ (t : List ℕ). line_key host t ≡ None) now
        (with_host_none host part line (join_with_byte 44 (x ∷ xs)) is (join_lacks 44 32 (x ∷ xs) refl are.space)
        (apart_join x xs line.rest (first_stays x xs (entries line) some)) (joined_matches host x xs are.comma ∙ none))

    gone_line : (part : List ℕ) (line : Line) (b : Bool) → field_matches host line.host ≡ b → IsLine part line
        → (text : List ℕ) → (if b then option_map (with_host line) (joined_entries (filter (stays host) (entries line))) else Some part) ≡ Some text → line_key host text ≡ None
    gone_line part line false e is text h =
        let same : part ≡ text = cc h in
        subst (λ (t : List ℕ). line_key host t ≡ None) same (line_key_none host part line is e)
    gone_line part line true e is text h = gone_kept part line (filter (stays host) (entries line)) is refl (none_stays (entries line)) text h

    gone_part : (part : List ℕ) (o : Option Line) → line_of part ≡ o → (text : List ℕ) → part_by host part o ≡ Some text → line_key host text ≡ None
    gone_part part None is text h =
        let same : part ≡ text = cc h in
        subst (λ (t : List ℕ). line_key host t ≡ None) same (no_line_key host part apart is)
    gone_part part (Some line) is text h = gone_line part line (field_matches host line.host) refl (is_line part line is) text h

    one_gone : (n : ℕ) (o : Option (List ℕ)) (rest : List (List ℕ)) → ((text : List ℕ) → o ≡ Some text → line_key host text ≡ None)
        → ((k : ℕ) → numbered host k rest ≡ []) → numbered host n (cons_option o rest) ≡ []
    one_gone n None rest none later = later n
    one_gone n (Some text) rest none later =
        ap (λ (o : Option LineKey). cons_option (option_map (λ key. (n, key)) o) (numbered host (n + 1) rest)) (none text refl) ∙ later (n + 1)

    none_left : (parts : List (List ℕ)) (n : ℕ) → numbered host n (left (map (λ part. (part, part_without host part)) parts)) ≡ []
    none_left [] n = refl
    none_left (part ∷ parts) n =
        one_gone n (part_without host part) (left (map (λ p. (p, part_without host p)) parts)) (gone_part part (line_of part) refl) (none_left parts)

-- ---- parts

removed_parts : (host : List ℕ) (parts : List (List ℕ)) → parts_of (map (λ part. (part, part_without host part)) parts) ≡ parts
removed_parts host [] = refl
removed_parts host (part ∷ parts) = ap (λ (ps : List (List ℕ)). part ∷ ps) (removed_parts host parts)

-- the replacement of a part has no line feeds
abbrev pub LacksIfAny : Option (List ℕ) → Type 0
LacksIfAny None = Unit {0}
LacksIfAny (Some text) = Lacks text 10

lacks_kept : (part : List ℕ) (line : Line) (kept : List (List ℕ)) → IsLine part line → Lacks part 10 → EachLacks kept 10 → LacksIfAny (option_map (with_host line) (joined_entries kept))
lacks_kept part line [] is none each = tt
lacks_kept part line (x ∷ xs) is none each =
    new_line_lacks line (join_with_byte 44 (x ∷ xs)) (join_lacks 44 10 (x ∷ xs) refl each) (line_lacks 10 part line refl is none).1

lacks_line : (host part : List ℕ) (line : Line) (b : Bool) → IsLine part line → Lacks part 10
    → LacksIfAny (if b then option_map (with_host line) (joined_entries (filter (stays host) (entries line))) else Some part)
lacks_line host part line false is none = none
lacks_line host part line true is none =
    lacks_kept part line (filter (stays host) (entries line)) is none
    (staying_lack (stays host) 10 (entries line) (parts_also_lack 44 10 line.host (line_lacks 10 part line refl is none).0))

lacks_part : (host part : List ℕ) (o : Option Line) → line_of part ≡ o → Lacks part 10 → LacksIfAny (part_by host part o)
lacks_part host part None is none = none
lacks_part host part (Some line) is none = lacks_line host part line (field_matches host line.host) (is_line part line is) none

left_lacks : (o : Option (List ℕ)) (rest : List (List ℕ)) → LacksIfAny o → EachLacks rest 10 → EachLacks (cons_option o rest) 10
left_lacks None rest one each = each
left_lacks (Some text) rest one each = (one, each)

removed_lacks : (host : List ℕ) (parts : List (List ℕ)) → EachLacks parts 10 → EachLacks (left (map (λ part. (part, part_without host part)) parts)) 10
removed_lacks host [] each = tt
removed_lacks host (part ∷ parts) each = left_lacks (part_without host part) _ (lacks_part host part (line_of part) refl each.0) (removed_lacks host parts each.1)

-- removing a host changes no verdict for a host text that no removed entry matches, except for its line number
pub removed_agrees : (text host other : List ℕ) → NoneMatches other (removed_entries text host) → Agrees text (removes_host text host) other
removed_agrees text host other none =
    agrees text (removes_host text host) other (removed_parts host (parts_at 10 text)) (removed_lacks host (parts_at 10 text) (parts_lack 10 text))
    (removed_follows host other (parts_at 10 text) [] none)

unknown_case : (b : Bool) (x : Result Bool Error) → x ≡ Ok false → (if b then Ok false else x) ≡ Ok false
unknown_case true x e = refl
unknown_case false x e = e

-- no key of the host is known any more
pub removed_unknown : (text host : List ℕ) (key : Key) → begins_apart host ≡ false → judged (rewritten (removes_host text host)) host key ≡ Ok false
unfolding judged marked_keys
removed_unknown text host key apart =
    let none : matching (rewritten (removes_host text host)) host ≡ [] =
    matching_rewritten (removes_host text host) host (removed_lacks host (parts_at 10 text) (parts_lack 10 text)) ∙ none_left host apart (parts_at 10 text) 1 in
    rw none (unknown_case (is_certificate key) _ refl)
