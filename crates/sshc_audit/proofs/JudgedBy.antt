-- The judgement by the first lines that can't be read, that revoke the key, that contradict it and that record it.
use Rattle.std.proofs.Common.{◌≡◌, ℕ, Bool, true, false, List, [], ◌∷◌, Option, Some, None, Result, Ok, Err, refl, ap, sym, ◌∙◌, subst}
use Rattle.std.specs.Prelude.{if◌then◌else◌, not, ◌&&◌, find, option_map}
use Rattle.sshc_wire.specs.Reads.{◌>>=◌}
use Rattle.sshc_key.specs.KeyGrammar.{Key}
use Rattle.sshc_key.specs.KeyEq.{key_eq}
use Rattle.sshc_key.specs.KeyText.{decoded_key}
use Rattle.sshc_key.specs.declared.error.Error.{Error}
use Rattle.sshc_hosts.specs.declared.marks.Mark.{Mark}
use Rattle.sshc_hosts.specs.declared.marks.Mark.TheVariants.{Recorded, Revoked}
use Rattle.sshc_hosts.specs.MatchingLines.{LineKey, marked_as}
use Rattle.sshc_hosts.specs.Judgement.{KnownKey, KeysByMark, same_algorithm, contradicts, first_line, has_key, verdict, judged_among, with_key, read_lines}
use Rattle.sshc_hosts.proofs.JudgementLemmas.{with_line}

-- how a line relates to a key: it can't be read, or it has a mark and its key passes a test
abbrev pub is_bad_by : Result Key Error → Bool
is_bad_by (Ok k) = false
is_bad_by (Err e) = true

abbrev pub is_bad : LineKey → Bool
is_bad line = is_bad_by (decoded_key line.text)

abbrev pub passes : (Key → Bool) → Result Key Error → Bool
passes test (Ok k) = test k
passes test (Err e) = false

abbrev pub same_mark : Mark → Mark → Bool
same_mark Recorded Recorded = true
same_mark Revoked Revoked = true
same_mark mark other = false

abbrev pub passes_as : Mark → (Key → Bool) → LineKey → Bool
passes_as mark test line = same_mark mark line.mark && passes test (decoded_key line.text)

-- the line revokes the key, contradicts it, or records it
abbrev pub is_revoking : Key → LineKey → Bool
is_revoking key = passes_as Revoked (key_eq key)

abbrev pub is_contrary : Key → LineKey → Bool
is_contrary key = passes_as Recorded (λ k. same_algorithm key k && not (key_eq key k))

abbrev pub is_recording : Key → LineKey → Bool
is_recording key = passes_as Recorded (key_eq key)

-- the first line of a kind
abbrev pub first_of : (LineKey → Bool) → List (ℕ × LineKey) → Option (ℕ × LineKey)
first_of test lines = find (λ line. test line.1) lines

abbrev pub number_of : {T : Type 0} → Option (ℕ × T) → Option ℕ
number_of {T} o = option_map (λ (line : ℕ × T). line.0) o

-- the keys of lines with a mark
abbrev pub keys_of : Mark → KeysByMark → List KnownKey
keys_of Recorded keys = keys.recorded
keys_of Revoked keys = keys.revoked

abbrev pub key_passes : (Key → Bool) → KnownKey → Bool
key_passes test known = test known.1.0

-- lines whose keys can all be read: the first of their keys with a mark that passes a test is that of the first such line
pub record AreRead (lines : List (ℕ × LineKey)) : Type 0 where
  pub keys : KeysByMark
  pub read : read_lines lines ≡ Ok keys
  pub same : (mark : Mark) (test : Key → Bool) → first_line (key_passes test) (keys_of mark keys) ≡ number_of (first_of (passes_as mark test) lines)

find_by : {X : Type 0} (p : X → Bool) (x : X) (xs : List X) (b : Bool) → p x ≡ b → find p (x ∷ xs) ≡ (if b then Some x else find p xs)
find_by p x xs true e = rw e refl
find_by p x xs false e = rw e refl

same_number : {T U : Type 0} (b : Bool) (a : ℕ × T) (a' : ℕ × U) (x : Option (ℕ × T)) (y : Option (ℕ × U)) → a.0 ≡ a'.0 → number_of x ≡ number_of y
    → number_of (if b then Some a else x) ≡ number_of (if b then Some a' else y)
same_number true a a' x y first rest = ap Some first
same_number false a a' x y first rest = rest

module _ (test : Key → Bool) (n : ℕ) (k : Key) (text : List ℕ) (lines : List (ℕ × LineKey)) (is : decoded_key text ≡ Ok k) where
  -- a line with the mark
  own_line : (mark : Mark) (known : List KnownKey) → same_mark mark mark ≡ true → first_line (key_passes test) known ≡ number_of (first_of (passes_as mark test) lines)
      → first_line (key_passes test) ((n, (k, [])) ∷ known) ≡ number_of (first_of (passes_as mark test) ((n, marked_as mark text) ∷ lines))
  own_line mark known own rest =
      let line : ℕ × LineKey = (n, marked_as mark text) in
      let by_key : passes_as mark test line.1 ≡ test k = ap (λ (b : Bool). b && passes test (decoded_key text)) own ∙ ap (passes test) is in
      ap number_of (find_by (key_passes test) (n, (k, [])) known (test k) refl)
      ∙ same_number (test k) (n, (k, [])) line (find (key_passes test) known) (first_of (passes_as mark test) lines) refl rest
      ∙ ap number_of (sym (find_by (λ (l : ℕ × LineKey). passes_as mark test l.1) line lines (test k) by_key))

  -- a line with the other mark
  other_line : (mark other : Mark) → same_mark mark other ≡ false → number_of (first_of (passes_as mark test) ((n, marked_as other text) ∷ lines)) ≡ number_of (first_of (passes_as mark test) lines)
  other_line mark other apart =
      ap number_of (find_by (λ (l : ℕ × LineKey). passes_as mark test l.1) (n, marked_as other text) lines false (ap (λ (b : Bool). b && passes test (decoded_key text)) apart))

  one_line : (mark other : Mark) (keys : KeysByMark) → first_line (key_passes test) (keys_of mark keys) ≡ number_of (first_of (passes_as mark test) lines)
      → first_line (key_passes test) (keys_of mark (with_key other (n, (k, [])) keys)) ≡ number_of (first_of (passes_as mark test) ((n, marked_as other text) ∷ lines))
  one_line Recorded Recorded keys rest = own_line Recorded keys.recorded refl rest
  one_line Revoked Revoked keys rest = own_line Revoked keys.revoked refl rest
  one_line Recorded Revoked keys rest = rest ∙ sym (other_line Recorded Revoked refl)
  one_line Revoked Recorded keys rest = rest ∙ sym (other_line Revoked Recorded refl)

read_case : (line : ℕ × LineKey) (lines : List (ℕ × LineKey)) (d : Result Key Error) → decoded_key line.1.text ≡ d → first_of is_bad (line ∷ lines) ≡ None
    → (first_of is_bad lines ≡ None → AreRead lines) → AreRead (line ∷ lines)
read_case line lines (Err e) is none later =
    let stops : first_of is_bad (line ∷ lines) ≡ Some line = find_by (λ (l : ℕ × LineKey). is_bad l.1) line lines true (ap is_bad_by is) in
    let wrong : Some line ≡ None = sym stops ∙ none in
    cc wrong
read_case line lines (Ok k) is none later =
    let skips : first_of is_bad (line ∷ lines) ≡ first_of is_bad lines = find_by (λ (l : ℕ × LineKey). is_bad l.1) line lines false (ap is_bad_by is) in
    let rest : AreRead lines = later (sym skips ∙ none) in
    record {
      keys = with_key line.1.mark (line.0, (k, [])) rest.keys;
      read = ap (λ (d : Result Key Error). with_line line d (read_lines lines)) is ∙ ap (λ (r : Result KeysByMark Error). with_line line (Ok k) r) rest.read;
      same = λ mark test. one_line test line.0 k line.1.text lines is mark line.1.mark rest.keys (rest.same mark test);
    }

none_read : (mark : Mark) (test : Key → Bool) → first_line (key_passes test) (keys_of mark (record { recorded = []; revoked = [] })) ≡ None
none_read Recorded test = refl
none_read Revoked test = refl

pub are_read : (lines : List (ℕ × LineKey)) → first_of is_bad lines ≡ None → AreRead lines
are_read [] none = record { keys = record { recorded = []; revoked = [] }; read = refl; same = none_read }
are_read (line ∷ lines) none = read_case line lines (decoded_key line.1.text) refl none (are_read lines)

-- the reason why the first unreadable line can't be read is the reason why the lines can't be
abbrev pub SaysWhy : List (ℕ × LineKey) → ℕ × LineKey → Type 0
SaysWhy lines bad = (e : Error) × (read_lines lines ≡ Err e) × (decoded_key bad.1.text ≡ Err e)

why_case : (line bad : ℕ × LineKey) (lines : List (ℕ × LineKey)) (d : Result Key Error) → decoded_key line.1.text ≡ d → first_of is_bad (line ∷ lines) ≡ Some bad
    → (first_of is_bad lines ≡ Some bad → SaysWhy lines bad) → SaysWhy (line ∷ lines) bad
why_case line bad lines (Err e) is some later =
    let stops : first_of is_bad (line ∷ lines) ≡ Some line = find_by (λ (l : ℕ × LineKey). is_bad l.1) line lines true (ap is_bad_by is) in
    let both : Some line ≡ Some bad = sym stops ∙ some in
    let same : line ≡ bad = cc both in
    (e, ap (λ (d : Result Key Error). with_line line d (read_lines lines)) is, subst (λ (l : ℕ × LineKey). decoded_key l.1.text ≡ Err e) same is)
why_case line bad lines (Ok k) is some later =
    let skips : first_of is_bad (line ∷ lines) ≡ first_of is_bad lines = find_by (λ (l : ℕ × LineKey). is_bad l.1) line lines false (ap is_bad_by is) in
    let (e, rest, why) = later (sym skips ∙ some) in
    (e, ap (λ (d : Result Key Error). with_line line d (read_lines lines)) is ∙ ap (λ (r : Result KeysByMark Error). with_line line (Ok k) r) rest, why)

pub says_why : (lines : List (ℕ × LineKey)) (bad : ℕ × LineKey) → first_of is_bad lines ≡ Some bad → SaysWhy lines bad
says_why [] bad some = cc some
says_why (line ∷ lines) bad some = why_case line bad lines (decoded_key line.1.text) refl some (says_why lines bad)

-- the verdict by the numbers of the first lines that revoke the key, contradict it and record it
pub judged_read : (key : Key) (lines : List (ℕ × LineKey)) → AreRead lines
    → (read_lines lines >>= judged_among key) ≡ verdict (number_of (first_of (is_revoking key) lines)) (number_of (first_of (is_contrary key) lines)) (number_of (first_of (is_recording key) lines))
judged_read key lines are =
    ap (λ (r : Result KeysByMark Error). r >>= judged_among key) are.read
    ∙ ap (λ (n : Option ℕ). verdict n (first_line (contradicts key) are.keys.recorded) (first_line (has_key key) are.keys.recorded)) (are.same Revoked (key_eq key))
    ∙ ap (λ (n : Option ℕ). verdict (number_of (first_of (is_revoking key) lines)) n (first_line (has_key key) are.keys.recorded))
    (are.same Recorded (λ k. same_algorithm key k && not (key_eq key k)))
    ∙ ap (λ (n : Option ℕ). verdict (number_of (first_of (is_revoking key) lines)) (number_of (first_of (is_contrary key) lines)) n) (are.same Recorded (key_eq key))
