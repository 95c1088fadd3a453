-- How dropping doubled lines affects the verdicts.
use Rattle.std.proofs.Common.{◌≡◌, inl, inr, ℕ, Bool, true, false, List, [], ◌∷◌, ◌++◌, Option, Some, None, refl, ap, sym, ◌∙◌, subst}
use Rattle.std.specs.Prelude.{◌&&◌, ◌||◌, if◌then◌else◌, bytes_eq}
use mathlib.Core.Bool.{beq}
use Rattle.std.specs.List.{cons_option}
use Rattle.std.proofs.lemmas.Slice.Eq.{bytes_eq-Decides}
use Rattle.sshc_wire.specs.CasesLaws.{both_true}
use Rattle.sshc_hosts.specs.declared.marks.Mark.{Mark}
use Rattle.sshc_hosts.specs.declared.marks.Mark.TheVariants.{Recorded, Revoked}
use Rattle.sshc_hosts.specs.MatchingLines.{LineKey, is_revoked, parts_at, line_key}
use Rattle.sshc_hosts.specs.Learning.{Lacks}
use Rattle.sshc_audit.specs.Lines.{Line, line_of}
use Rattle.sshc_audit.specs.Rewriting.{Change, left, Agrees}
use Rattle.sshc_audit.specs.Doubled.{says_same, both_say, is_doubled, undoubled, drops_doubled}
use Rattle.sshc_audit.proofs.Parts.{EachLacks, parts_lack}
use Rattle.sshc_audit.proofs.Following.{parts_of, IsAmong, Follows}
use Rattle.sshc_audit.proofs.LineFacts.{is_line, key_by, line_key_is}
use Rattle.sshc_audit.proofs.Agreement.{agrees}

-- the keys of these parts are among those seen
abbrev pub Covers : List ℕ → List (List ℕ) → List LineKey → Type 0
Covers host [] seen = Unit {0}
Covers host (part ∷ parts) seen = IsAmong (line_key host part) seen × Covers host parts seen

among_more : (o seen_entry : Option LineKey) (seen : List LineKey) → IsAmong seen_entry seen → IsAmong seen_entry (cons_option o seen)
among_more None seen_entry seen h = h
among_more (Some x) None seen h = tt
among_more (Some x) (Some y) seen h = inr h

among_own : (o : Option LineKey) (seen : List LineKey) → IsAmong o (cons_option o seen)
among_own None seen = tt
among_own (Some x) seen = inl refl

covers_more : (host : List ℕ) (parts : List (List ℕ)) (seen : List LineKey) (o : Option LineKey) → Covers host parts seen → Covers host parts (cons_option o seen)
covers_more host [] seen o h = tt
covers_more host (part ∷ parts) seen o h = (among_more o (line_key host part) seen h.0, covers_more host parts seen o h.1)

covers_next : (host : List ℕ) (parts : List (List ℕ)) (seen : List LineKey) (part : List ℕ) → Covers host parts seen → IsAmong (line_key host part) seen → Covers host (parts ++ part ∷ []) seen
covers_next host [] seen part h own = (own, tt)
covers_next host (first ∷ parts) seen part h own = (h.0, covers_next host parts seen part h.1 own)

beq_same : (a b : Bool) → beq a b ≡ true → a ≡ b
beq_same true true h = refl
beq_same true false h = cc h
beq_same false true h = cc h
beq_same false false h = refl

mark_same : (a b : Mark) → is_revoked a ≡ is_revoked b → a ≡ b
mark_same Recorded Recorded h = refl
mark_same Recorded Revoked h = cc h
mark_same Revoked Recorded h = cc h
mark_same Revoked Revoked h = refl

same_key_by : (host : List ℕ) (line other : Line) → says_same line other ≡ true → key_by host line.mark line.host line.key ≡ key_by host other.mark other.host other.key
same_key_by host line other same =
    let (fields, key) = both_true (beq (is_revoked line.mark) (is_revoked other.mark) && bytes_eq line.host other.host) (bytes_eq line.key other.key) same in
    let (mark, name) = both_true (beq (is_revoked line.mark) (is_revoked other.mark)) (bytes_eq line.host other.host) fields in
    ap (λ (m : Mark). key_by host m line.host line.key) (mark_same line.mark other.mark (beq_same (is_revoked line.mark) (is_revoked other.mark) mark))
    ∙ ap (λ (f : List ℕ). key_by host other.mark f line.key) ((bytes_eq-Decides line.host other.host).0 name)
    ∙ ap (λ (k : List ℕ). key_by host other.mark other.host k) ((bytes_eq-Decides line.key other.key).0 key)

module _ (host : List ℕ) where
  said_same : (part other : List ℕ) (o o' : Option Line) → line_of part ≡ o → line_of other ≡ o' → both_say o' o ≡ true → line_key host part ≡ line_key host other
  said_same part other None None is is' h = cc h
  said_same part other None (Some line') is is' h = cc h
  said_same part other (Some line) None is is' h = cc h
  said_same part other (Some line) (Some line') is is' h =
      line_key_is host part line (is_line part line is) ∙ sym (same_key_by host line' line h) ∙ sym (line_key_is host other line' (is_line other line' is'))

  doubled_case : (part other : List ℕ) (more : List (List ℕ)) (seen : List LineKey) (b : Bool) → both_say (line_of other) (line_of part) ≡ b → (b || is_doubled more part) ≡ true
      → IsAmong (line_key host other) seen → (is_doubled more part ≡ true → IsAmong (line_key host part) seen) → IsAmong (line_key host part) seen
  doubled_case part other more seen true e h first later =
      subst (λ (o : Option LineKey). IsAmong o seen) (sym (said_same part other (line_of part) (line_of other) refl refl e)) first
  doubled_case part other more seen false e h first later = later h

  -- the key of a doubled line is among those seen
  doubled_among : (earlier : List (List ℕ)) (seen : List LineKey) (part : List ℕ) → is_doubled earlier part ≡ true → Covers host earlier seen → IsAmong (line_key host part) seen
  doubled_among [] seen part h covers = cc h
  doubled_among (other ∷ more) seen part h covers =
      doubled_case part other more seen (both_say (line_of other) (line_of part)) refl h covers.0 (λ later. doubled_among more seen part later covers.1)

  follows_case : (earlier : List (List ℕ)) (seen : List LineKey) (part : List ℕ) (changes : List Change) (b : Bool) → is_doubled earlier part ≡ b → Covers host earlier seen
      → ((more : List LineKey) → Covers host (earlier ++ part ∷ []) more → Follows host more changes) → Follows host seen ((part, if b then None else Some part) ∷ changes)
  follows_case earlier seen part changes true e covers later =
      let seen_entry : IsAmong (line_key host part) seen = doubled_among earlier seen part e covers in
      (seen_entry, later seen (covers_next host earlier seen part covers seen_entry))
  follows_case earlier seen part changes false e covers later = (
    refl,
    later (cons_option (line_key host part) seen)
        (covers_next host earlier (cons_option (line_key host part) seen) part (covers_more host earlier seen (line_key host part) covers) (among_own (line_key host part) seen)),
  )

  undoubled_follows : (earlier parts : List (List ℕ)) (seen : List LineKey) → Covers host earlier seen → Follows host seen (undoubled earlier parts)
  undoubled_follows earlier [] seen covers = tt
  undoubled_follows earlier (part ∷ parts) seen covers =
      follows_case earlier seen part (undoubled (earlier ++ part ∷ []) parts) (is_doubled earlier part) refl covers
      (λ more covers'. undoubled_follows (earlier ++ part ∷ []) parts more covers')

undoubled_parts : (earlier parts : List (List ℕ)) → parts_of (undoubled earlier parts) ≡ parts
undoubled_parts earlier [] = refl
undoubled_parts earlier (part ∷ parts) = ap (λ (ps : List (List ℕ)). part ∷ ps) (undoubled_parts (earlier ++ part ∷ []) parts)

left_lacks : (byte : ℕ) (part : List ℕ) (changes : List Change) (b : Bool) → Lacks part byte → EachLacks (left changes) byte → EachLacks (left ((part, if b then None else Some part) ∷ changes)) byte
left_lacks byte part changes true one each = each
left_lacks byte part changes false one each = (one, each)

undoubled_lacks : (byte : ℕ) (earlier parts : List (List ℕ)) → EachLacks parts byte → EachLacks (left (undoubled earlier parts)) byte
undoubled_lacks byte earlier [] each = tt
undoubled_lacks byte earlier (part ∷ parts) each =
    left_lacks byte part (undoubled (earlier ++ part ∷ []) parts) (is_doubled earlier part) each.0 (undoubled_lacks byte (earlier ++ part ∷ []) parts each.1)

-- dropping doubled lines changes no verdict except for its line number
pub doubled_agrees : (text host : List ℕ) → Agrees text (drops_doubled text) host
doubled_agrees text host =
    agrees text (drops_doubled text) host (undoubled_parts [] (parts_at 10 text)) (undoubled_lacks 10 [] (parts_at 10 text) (parts_lack 10 text))
    (undoubled_follows host [] (parts_at 10 text) [] tt)
