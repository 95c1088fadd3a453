-- When the verdicts agree: each part that is kept matches as before, and each dropped part repeats an earlier one.
use Rattle.std.proofs.Common.{◌≡◌, ℕ, Bool, true, false, List, [], ◌∷◌, Option, Some, None, Result, Ok, Err, IfErr, refl, ap, sym, ◌∙◌, subst, arith}
use Rattle.std.specs.Prelude.{if◌then◌else◌}
use Rattle.std.specs.List.{join_with_byte}
use Rattle.sshc_wire.specs.Reads.{◌>>=◌}
use Rattle.sshc_key.specs.KeyGrammar.{Key}
use Rattle.sshc_key.specs.KeyText.{decoded_key}
use Rattle.sshc_key.specs.declared.error.Error.{Error}
use Rattle.sshc_key.specs.declared.error.Error.TheVariants.{KeyChanged, Revoked}
use Rattle.sshc_hosts.specs.MatchingLines.{LineKey, parts_at, matching}
use Rattle.sshc_hosts.specs.Judgement.{KeysByMark, verdict, judged_among, is_certificate, read_lines, marked_keys, judged, IsUnreadable}
use Rattle.sshc_hosts.specs.RefusalLaws.{read_lines-refuses}
use Rattle.sshc_audit.specs.Rewriting.{Change, left, rewritten, Agree, Agrees}
use Rattle.sshc_audit.proofs.Parts.{EachLacks, parts_join}
use Rattle.sshc_audit.proofs.Following.{numbered, parts_of, Follows, SameFound, found_same}
use Rattle.sshc_audit.proofs.JudgedBy.{is_bad, is_revoking, is_contrary, is_recording, first_of, number_of, are_read, says_why, judged_read}

-- ---- verdicts by the first line found

agree_unreadable : (changes : List Change) (e : Error) → IsUnreadable e → Agree changes (Err e) (Err e)
agree_unreadable changes (KeyChanged line) h = absurd h
agree_unreadable changes (Revoked line) h = absurd h
agree_unreadable changes e h = refl

agree_err : (changes : List Change) (e f : Error) → f ≡ e → IsUnreadable e → Agree changes (Err e) (Err f)
agree_err changes e f same h = subst (λ (x : Error). Agree changes (Err e) (Err x)) (sym same) (agree_unreadable changes e h)

-- the first lines that record a key, if none revokes or contradicts it
agree_recording : (changes : List Change) (x y : Option (ℕ × LineKey)) → SameFound changes 1 1 x y → Agree changes (verdict None None (number_of x)) (verdict None None (number_of y))
agree_recording changes None None h = refl
agree_recording changes None (Some b) h = absurd h
agree_recording changes (Some a) None h = absurd h
agree_recording changes (Some a) (Some b) h = refl

-- the first lines that contradict it, if none revokes it
agree_contrary : (changes : List Change) (x y c d : Option (ℕ × LineKey)) → SameFound changes 1 1 x y → SameFound changes 1 1 c d
    → Agree changes (verdict None (number_of x) (number_of c)) (verdict None (number_of y) (number_of d))
agree_contrary changes None None c d h rest = agree_recording changes c d rest
agree_contrary changes None (Some b) c d h rest = absurd h
agree_contrary changes (Some a) None c d h rest = absurd h
agree_contrary changes (Some a) (Some a') c d (same, (before, behind, part, text, is, first, second)) rest =
    (before, behind, part, text, is, omega (arith, first), omega (arith, second))

agree_verdicts : (changes : List Change) (r s x y c d : Option (ℕ × LineKey)) → SameFound changes 1 1 r s → SameFound changes 1 1 x y → SameFound changes 1 1 c d
    → Agree changes (verdict (number_of r) (number_of x) (number_of c)) (verdict (number_of s) (number_of y) (number_of d))
agree_verdicts changes None None x y c d h contrary rest = agree_contrary changes x y c d contrary rest
agree_verdicts changes None (Some b) x y c d h contrary rest = absurd h
agree_verdicts changes (Some a) None x y c d h contrary rest = absurd h
agree_verdicts changes (Some a) (Some a') x y c d (same, (before, behind, part, text, is, first, second)) contrary rest =
    (before, behind, part, text, is, omega (arith, first), omega (arith, second))

agree_by : (changes : List Change) (x x' y y' : Result Bool Error) → x ≡ x' → y ≡ y' → Agree changes x' y' → Agree changes x y
agree_by changes x x' y y' is same h = rw (is, same) h

module _ (changes : List Change) (key : Key) (old new : List (ℕ × LineKey)) (same : (test : LineKey → Bool) → SameFound changes 1 1 (first_of test old) (first_of test new)) where
  bad_agree : (a b : ℕ × LineKey) → first_of is_bad old ≡ Some a → first_of is_bad new ≡ Some b → a.1 ≡ b.1
      → Agree changes (read_lines old >>= judged_among key) (read_lines new >>= judged_among key)
  bad_agree a b is is' field =
      let (e, read, why) = says_why old a is in
      let (e', read', why') = says_why new b is' in
      let both : Err e ≡ Err e' = sym why ∙ ap (λ (line : LineKey). decoded_key line.text) field ∙ why' in
      let one : e' ≡ e = cc both in
      let unreadable : IsUnreadable e = subst (λ (r : Result KeysByMark Error). IfErr r IsUnreadable) read (read_lines-refuses old) in
      agree_by changes _ (Err e) _ (Err e') (ap (λ (r : Result KeysByMark Error). r >>= judged_among key) read)
      (ap (λ (r : Result KeysByMark Error). r >>= judged_among key) read') (agree_err changes e e' one unreadable)

  agree_case : (x y : Option (ℕ × LineKey)) → first_of is_bad old ≡ x → first_of is_bad new ≡ y → SameFound changes 1 1 x y
      → Agree changes (read_lines old >>= judged_among key) (read_lines new >>= judged_among key)
  agree_case None None is is' h =
      agree_by changes _ _ _ _ (judged_read key old (are_read old is)) (judged_read key new (are_read new is'))
      (agree_verdicts changes _ _ _ _ _ _ (same (is_revoking key)) (same (is_contrary key)) (same (is_recording key)))
  agree_case None (Some b) is is' h = absurd h
  agree_case (Some a) None is is' h = absurd h
  agree_case (Some a) (Some b) is is' h = bad_agree a b is is' h.0

  pub agree_found : Agree changes (read_lines old >>= judged_among key) (read_lines new >>= judged_among key)
  agree_found = agree_case (first_of is_bad old) (first_of is_bad new) refl refl (same is_bad)

-- ---- texts

-- the matching lines of the new text
pub matching_case : (parts : List (List ℕ)) (host : List ℕ) → EachLacks parts 10 → matching (join_with_byte 10 parts) host ≡ numbered host 1 parts
matching_case [] host each = refl
matching_case (part ∷ parts) host each = ap (numbered host 1) (parts_join 10 part parts each)

pub matching_rewritten : (changes : List Change) (host : List ℕ) → EachLacks (left changes) 10 → matching (rewritten changes) host ≡ numbered host 1 (left changes)
matching_rewritten changes host each = matching_case (left changes) host each

certificate_case : (changes : List Change) (b : Bool) (x y : Result Bool Error) → Agree changes x y → Agree changes (if b then Ok false else x) (if b then Ok false else y)
certificate_case changes true x y h = refl
certificate_case changes false x y h = h

-- the verdicts agree if each part that is kept matches as before, and each dropped part repeats an earlier one
pub agrees : (text : List ℕ) (changes : List Change) (host : List ℕ) → parts_of changes ≡ parts_at 10 text → EachLacks (left changes) 10 → Follows host [] changes → Agrees text changes host
unfolding judged marked_keys
agrees text changes host parts each follows key =
    let old : matching text host ≡ numbered host 1 (parts_of changes) = ap (numbered host 1) (sym parts) in
    let new : matching (rewritten changes) host ≡ numbered host 1 (left changes) = matching_rewritten changes host each in
    rw (old, new) (certificate_case changes (is_certificate key) _ _
    (agree_found changes key (numbered host 1 (parts_of changes)) (numbered host 1 (left changes)) (λ test. found_same host test [] changes 1 1 follows tt)))
