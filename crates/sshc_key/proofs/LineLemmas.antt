-- The lines of public key files: parts at the first white space, and no text is a failed read.
use Rattle.std.proofs.Common.{◌≡◌, ℕ, ◌+◌, Bool, true, false, nat_lt, List, [], ◌∷◌, ◌++◌, length, take, drop, Option, Some, None, Result, Ok, Err, MatchOption, Bor, refl, ap, sym, subst, ◌∙◌, arith, append_assoc, length-append}
use Rattle.std.proofs.Math.Seq.{take-append_seam, drop-append-add}
use Rattle.std.proofs.lemmas.Bool.Decides.{nat_tests}
use Rattle.std.proofs.lemmas.List.{take-append-drop}
use Rattle.std.proofs.lemmas.Str.{cons_from_encodes, chars_from_encodes}
use Rattle.std.specs.Char.{is_whitespace}
use Rattle.std.specs.List.{position_or_len}
use Rattle.std.specs.Str.{chars, encode_utf8_all, IsUtf8, NonePass}
use Rattle.std.specs.Str.Pattern.{FindsBy, SplitsAroundMatch}
use lib.Utf8.{encode}
use Rattle.sshc_key.specs.declared.error.Error.{Error}
use Rattle.sshc_key.specs.declared.error.Error.TheVariants.{ReadFault}
use Rattle.sshc_key.specs.Gives.{GivesAll}
use Rattle.sshc_key.specs.KeyFiles.{at_first, at_white_space, commented_key, key_fields, key_line, key_of_line, public_key_in}
use Rattle.sshc_key.specs.KeyGrammar.{Key}
use Rattle.sshc_key.proofs.FieldLemmas.{no_fault_of_text}

-- ---- parts at the first that passes

first_place : (p : ℕ → Bool) (cs es : List ℕ) (c : ℕ) → NonePass p cs → p c ≡ true → position_or_len p (cs ++ (c ∷ es)) ≡ length cs
first_place p [] es c none is = rw is
first_place p (b ∷ cs) es c none is = rw (none.0, first_place p cs es c none.1 is) (omega arith)

no_place : (p : ℕ → Bool) (cs : List ℕ) → NonePass p cs → position_or_len p cs ≡ length cs
no_place p [] none = refl
no_place p (b ∷ cs) none = rw (none.0, no_place p cs none.1) (omega arith)

parts_found : (p : ℕ → Bool) (cs es : List ℕ) (c : ℕ) → NonePass p cs → p c ≡ true → at_first p (cs ++ (c ∷ es)) ≡ Some (cs, es)
parts_found p cs es c none is =
    let more : length (cs ++ (c ∷ es)) ≡ length cs + (length es + 1) = omega (arith, length-append cs (c ∷ es)) in
    let within : nat_lt (length cs) (length (cs ++ (c ∷ es))) ≡ true = grind (arith, nat_tests) in
    rw (first_place p cs es c none is, within, take-append_seam cs (c ∷ es), drop-append-add cs (c ∷ es) 1)

pub no_parts : (p : ℕ → Bool) (cs : List ℕ) → NonePass p cs → at_first p cs ≡ None
no_parts p cs none =
    let beyond : nat_lt (length cs) (length cs) ≡ false = grind (arith, nat_tests) in
    rw (no_place p cs none, beyond)

-- ---- the characters of a text, before and after the first white space

chars_at : (cs ds : List ℕ) (c : ℕ) (rest : List ℕ) → encode_utf8_all ds ≡ encode_utf8_all cs ++ (encode c ++ rest) → (es : List ℕ) × (ds ≡ cs ++ (c ∷ es)) × (encode_utf8_all es ≡ rest)
chars_at [] ds c rest h = cons_from_encodes ds rest c h
chars_at (b ∷ cs) ds c rest h =
    let (es, first, later) = cons_from_encodes ds (encode_utf8_all cs ++ (encode c ++ rest)) b (h ∙ append_assoc (encode b) (encode_utf8_all cs) (encode c ++ rest)) in
    let (fs, is, tail) = chars_at cs es c rest later in
    (fs, first ∙ ap (λ (x : List ℕ). b ∷ x) is, tail)

white_space_none : (text : List ℕ) → IsUtf8 text → FindsBy is_whitespace text None → at_white_space text ≡ None
unfolding at_white_space
white_space_none text utf8 (cs, spells, none) =
    rw (← chars_from_encodes cs text utf8 spells, no_parts is_whitespace cs none)

pub parts_of_chars : (text cs es : List ℕ) (c : ℕ) (front back : List ℕ) → chars text ≡ cs ++ (c ∷ es) → NonePass is_whitespace cs → is_whitespace c ≡ true
    → encode_utf8_all cs ≡ front → encode_utf8_all es ≡ back → at_white_space text ≡ Some (front, back)
unfolding at_white_space
parts_of_chars text cs es c front back parts none is before behind = rw (parts, parts_found is_whitespace cs es c none is, before, behind)

white_space_some : (text : List ℕ) (i j : ℕ) → IsUtf8 text → FindsBy is_whitespace text (Some (i, j)) → at_white_space text ≡ Some (take i text, drop j text)
white_space_some text i j utf8 ((cs, spells, none), (c, is, at)) =
    let whole : text ≡ encode_utf8_all cs ++ (encode c ++ drop j text) = sym (take-append-drop i text) ∙ cc (spells, at.split) in
    let (ds, (scalars, all)) = utf8 in
    let (es, parts, tail) = chars_at cs ds c (drop j text) (all ∙ whole) in
    parts_of_chars text cs es c (take i text) (drop j text) (sym (chars_from_encodes ds text utf8 all) ∙ parts) none is spells tail

-- what `split_once` returns for the pattern of white space
pub white_space_parts : (text : List ℕ) → IsUtf8 text → (asks : (ℕ → Bool) → Type 0) → asks is_whitespace
    → (r : Option (Bor (List ℕ) × Bor (List ℕ))) → MatchOption r ((k : ℕ → Bool) → asks k → FindsBy k text None) (λ x. SplitsAroundMatch (λ s o. (k : ℕ → Bool) → asks k → FindsBy k s o) text x.0.now x.1.now)
    → MatchOption r (at_white_space text ≡ None) (λ x. at_white_space text ≡ Some (x.0.now, x.1.now))
white_space_parts text utf8 asks white None h = white_space_none text utf8 (h is_whitespace white)
white_space_parts text utf8 asks white (Some x) (i, j, found, front, back, within, before, behind) =
    rw (front, back) (white_space_some text i j utf8 (found is_whitespace white))

-- ---- no text is a failed read

abbrev read_failed : Result (Key × List ℕ) Error
read_failed = Err ReadFault

no_fault_of_comment : (comment : List ℕ) (r : Result Key Error) → (r ≡ Err ReadFault → ⊥) → commented_key comment r ≡ read_failed → ⊥
no_fault_of_comment comment (Ok key) none e = cc
no_fault_of_comment comment (Err d) none e = none cc

no_fault_of_line : (o : Option (List ℕ)) → key_of_line o ≡ read_failed → ⊥
no_fault_of_line None e = cc
no_fault_of_line (Some line) e = no_fault_of_comment (key_fields line).1 _ (no_fault_of_text (key_fields line).0) e

no_read_fault : (text : List ℕ) → public_key_in text ≡ read_failed → ⊥
unfolding public_key_in
no_read_fault text e = no_fault_of_line (key_line text) e

pub not_read_fault : (r : Result (Key × List ℕ) Error) (text : List ℕ) → GivesAll (λ key. key) r (public_key_in text) → r ≡ read_failed → ⊥
not_read_fault r text gives is = no_read_fault text (subst (λ (x : Result (Key × List ℕ) Error). GivesAll (λ key. key) x (public_key_in text)) is gives)
