-- A line that is written for a key is read again: its three fields, and all of it.
use Rattle.std.proofs.Common.{◌≡◌, ℕ, zero, suc, ◌<◌, Bool, true, false, eqb, ltb, List, [], ◌∷◌, ◌++◌, length, Some, None, Ok, refl, sym, ap, subst, ◌∙◌, arith, append_assoc, append-nil, length-append}
use Rattle.std.specs.Prelude.{◌&&◌, not, ◌==◌, All}
use Rattle.std.specs.Char.{is_whitespace}
use Rattle.std.specs.List.{list_all}
use Rattle.std.specs.Str.{chars, encode_utf8_all, IsAscii, IsUtf8, NonePass, skip_leading_whitespace, drop_trailing_whitespace, trim, trim_start, trim_end}
use Rattle.std.specs.Str.Lines.{lines, lines_of_parts}
use Rattle.std.proofs.lemmas.Bool.{eqb-true, ltb-true, not-true}
use Rattle.std.proofs.lemmas.Bool.Decides.{nat_tests}
use Rattle.std.proofs.lemmas.List.Folds.{list_all-append}
use Rattle.std.proofs.lemmas.List.Splits.{slice_split_none}
use Rattle.std.proofs.lemmas.List.Sums.{AllPass-from_list_all, list_all-from_AllPass}
use Rattle.std.proofs.lemmas.Str.{IsUtf8-from_ascii, IsUtf8-append, chars-append, chars-IsAscii, encodes-chars, encodes-IsAscii, encodes_same, is_utf8-from_IsUtf8}
use Rattle.sshc_wire.specs.Contents.{bytes_of, found_in}
use Rattle.sshc_wire.specs.declared.files.Found.TheVariants as found
use Rattle.sshc_key.specs.Algorithms.{commented_text, key_base64, openssh_text}
use Rattle.sshc_key.specs.KeyFiles.{at_white_space, commented_key, is_key_line, key_fields, key_line, key_of_line, public_key_found, public_key_in, with_comment}
use Rattle.sshc_key.specs.KeyGrammar.{Key, key_name, key_text}
use Rattle.sshc_key.specs.KeyLines.{IsLineKey, IsLoadedFrom}
use Rattle.sshc_key.specs.KeyText.{decoded_key}
use Rattle.sshc_wire.specs.CasesLaws.{both_true}
use Rattle.sshc_key.specs.KeyLaws.Words.{is_word_byte, is_word, name_word, base64_word, base64_some}
use Rattle.sshc_key.proofs.LineLemmas.{no_parts, parts_of_chars}

-- ---- words

both : (a b : Bool) → a ≡ true → b ≡ true → (a && b) ≡ true
both true b e f = f
both false b e f = cc

word_ascii : (w : List ℕ) → is_word w ≡ true → IsAscii w
word_ascii [] h i = omega arith
word_ascii (b ∷ w) h zero = ltb-true _ _ (both_true (ltb b 128) (not (is_whitespace b)) (both_true (is_word_byte b) (is_word w) h).0).0
word_ascii (b ∷ w) h (suc i) = word_ascii w (both_true (is_word_byte b) (is_word w) h).1 i

no_white : (b : ℕ) → is_word_byte b ≡ true → is_whitespace b ≡ false
no_white b h = not-true (is_whitespace b) (both_true (ltb b 128) (not (is_whitespace b)) h).1

none_white : (w : List ℕ) → is_word w ≡ true → NonePass is_whitespace w
none_white [] h = tt
none_white (b ∷ w) h = let first = both_true (is_word_byte b) (is_word w) h in (no_white b first.0, none_white w first.1)

-- ---- one line

abbrev is_no_feed : ℕ → Bool
is_no_feed b = not (b == 10)

no_feed : (b : ℕ) (feed : Bool) → eqb b 10 ≡ feed → is_word_byte b ≡ true → not feed ≡ true
no_feed b false e h = refl
no_feed b true e h = let bad : is_word_byte 10 ≡ true = ap is_word_byte (sym (eqb-true b 10 e)) ∙ h in cc

word_in_line : (w : List ℕ) → is_word w ≡ true → list_all is_no_feed w ≡ true
word_in_line [] h = refl
word_in_line (b ∷ w) h =
    let first = both_true (is_word_byte b) (is_word w) h in
    both (is_no_feed b) (list_all is_no_feed w) (no_feed b (eqb b 10) refl first.0) (word_in_line w first.1)

in_line : (a b : List ℕ) → list_all is_no_feed a ≡ true → list_all is_no_feed b ≡ true → list_all is_no_feed (a ++ b) ≡ true
in_line a b h i = list_all-append is_no_feed a b ∙ both (list_all is_no_feed a) (list_all is_no_feed b) h i

comment_in_line : (comment : List ℕ) → All (λ b. (b == 10) ≡ false) comment → list_all is_no_feed (commented_text comment) ≡ true
comment_in_line [] h = refl
comment_in_line (b ∷ comment) h = list_all-from_AllPass is_no_feed (b ∷ comment) (λ k d within. ap not (h k d within))

some_is_not_none : (n : ℕ) → (suc n == 0) ≡ false
some_is_not_none n = grind (arith, nat_tests)

one_line : (b : ℕ) (rest : List ℕ) → list_all is_no_feed (b ∷ rest) ≡ true → lines (b ∷ rest) ≡ (b ∷ rest) ∷ []
one_line b rest h =
    ap lines_of_parts (slice_split_none (λ c. c == 10) (b ∷ rest) (λ k d within. not-true _ (AllPass-from_list_all is_no_feed (b ∷ rest) h k d within)))
    ∙ rw (some_is_not_none (length rest)) refl

-- ---- what stays when a text is trimmed

none_dropped : (w : List ℕ) → NonePass is_whitespace w → drop_trailing_whitespace w ≡ w
none_dropped [] h = refl
none_dropped (b ∷ w) h = rw h.0 (ap (λ (t : List ℕ). b ∷ t) (none_dropped w h.1))

and_no : (a : Bool) (xs : List ℕ) → 0 < length xs → (a && (length xs == 0)) ≡ false
and_no a [] h = absurd (omega arith)
and_no true (x ∷ xs) h = some_is_not_none (length xs)
and_no false (x ∷ xs) h = refl

kept_behind : (xs ys : List ℕ) → drop_trailing_whitespace ys ≡ ys → 0 < length ys → drop_trailing_whitespace (xs ++ ys) ≡ xs ++ ys
kept_behind [] ys same some = same
kept_behind (x ∷ xs) ys same some =
    let rest = kept_behind xs ys same some in
    let long : 0 < length (xs ++ ys) = omega (arith, length-append xs ys) in
    rw (rest, and_no (is_whitespace x) (xs ++ ys) long)

-- a text of characters without white space at its two ends
record IsTrimmed (text : List ℕ) : Type 0 where
  utf8 : IsUtf8 text
  first : ℕ
  others : List ℕ
  parts : chars text ≡ first ∷ others
  starts : is_whitespace first ≡ false
  ends : drop_trailing_whitespace (chars text) ≡ chars text

trimmed_start : (text : List ℕ) → IsTrimmed text → trim_start text ≡ text
unfolding trim_start
trimmed_start text is =
    ap (λ (cs : List ℕ). encode_utf8_all (skip_leading_whitespace cs)) is.parts ∙ rw is.starts (ap encode_utf8_all (sym is.parts)) ∙ encodes-chars text is.utf8

trimmed_end : (text : List ℕ) → IsTrimmed text → trim_end text ≡ text
unfolding trim_end
trimmed_end text is = ap encode_utf8_all is.ends ∙ encodes-chars text is.utf8

trimmed : (text : List ℕ) → IsTrimmed text → trim text ≡ text
trimmed text is = ap trim_end (trimmed_start text is) ∙ trimmed_end text is

-- a word, a space and a trimmed text
word_chars : (w text : List ℕ) → is_word w ≡ true → IsUtf8 text → chars (w ++ (32 ∷ text)) ≡ w ++ (32 ∷ chars text)
word_chars w text h utf8 =
    let front : IsAscii (w ++ (32 ∷ [])) = ascii_front w h in
    ap chars (sym (append_assoc w (32 ∷ []) text)) ∙ chars-append (w ++ (32 ∷ [])) text (IsUtf8-from_ascii _ front)
    ∙ ap (λ (t : List ℕ). t ++ chars text) (chars-IsAscii _ front) ∙ append_assoc w (32 ∷ []) (chars text)
  where
    ascii_front : (w : List ℕ) → is_word w ≡ true → IsAscii (w ++ (32 ∷ []))
    ascii_front [] h zero = omega arith
    ascii_front [] h (suc i) = omega arith
    ascii_front (b ∷ w) h zero = word_ascii (b ∷ w) h 0
    ascii_front (b ∷ w) h (suc i) = ascii_front w (both_true (is_word_byte b) (is_word w) h).1 i

word_utf8 : (w text : List ℕ) → is_word w ≡ true → IsUtf8 text → IsUtf8 (w ++ (32 ∷ text))
word_utf8 w text h utf8 = IsUtf8-append w (32 ∷ text) (IsUtf8-from_ascii w (word_ascii w h)) (IsUtf8-append (32 ∷ []) text (IsUtf8-from_ascii (32 ∷ []) (word_ascii_space)) utf8)
  where
    word_ascii_space : IsAscii (32 ∷ [])
    word_ascii_space zero = omega arith
    word_ascii_space (suc i) = omega arith

some_chars : (text cs : List ℕ) → IsUtf8 text → chars text ≡ cs → 0 < length text → 0 < length cs
some_chars text [] utf8 e some = let none : text ≡ [] = sym (encodes-chars text utf8) ∙ ap encode_utf8_all e in absurd (omega (arith, ap length none))
some_chars text (c ∷ cs) utf8 e some = omega arith

-- a text whose last word, behind a word and a space, isn't empty and is trimmed at its end
behind_word : (b : ℕ) (w text : List ℕ) → is_word (b ∷ w) ≡ true → IsUtf8 text → drop_trailing_whitespace (chars text) ≡ chars text → 0 < length text → IsTrimmed ((b ∷ w) ++ (32 ∷ text))
behind_word b w text h utf8 same some =
    let all = word_chars (b ∷ w) text h utf8 in
    let long : 0 < length (chars text) = some_chars text (chars text) utf8 refl some in
    record {
      utf8 = word_utf8 (b ∷ w) text h utf8;
      first = b;
      others = w ++ (32 ∷ chars text);
      parts = all;
      starts = no_white b (both_true (is_word_byte b) (is_word w) h).0;
      ends = ap drop_trailing_whitespace (all ∙ sym (append_assoc (b ∷ w) (32 ∷ []) (chars text))) ∙ kept_behind ((b ∷ w) ++ (32 ∷ [])) (chars text) same long
          ∙ append_assoc (b ∷ w) (32 ∷ []) (chars text) ∙ sym all;
    }

lone_word : (b : ℕ) (w : List ℕ) → is_word (b ∷ w) ≡ true → IsTrimmed (b ∷ w)
lone_word b w h =
    let all = chars-IsAscii (b ∷ w) (word_ascii (b ∷ w) h) in
    record {
      utf8 = IsUtf8-from_ascii (b ∷ w) (word_ascii (b ∷ w) h);
      first = b;
      others = w;
      parts = all;
      starts = no_white b (both_true (is_word_byte b) (is_word w) h).0;
      ends = ap drop_trailing_whitespace all ∙ none_dropped (b ∷ w) (none_white (b ∷ w) h) ∙ sym all;
    }

-- ---- the base64 and the comment

-- a comment that is trimmed at its end
comment_ends : (comment : List ℕ) → IsUtf8 comment → trim_end comment ≡ comment → drop_trailing_whitespace (chars comment) ≡ chars comment
unfolding trim_end
comment_ends comment utf8 same = encodes_same (drop_trailing_whitespace (chars comment)) (chars comment) (same ∙ sym (encodes-chars comment utf8))

tail_trimmed : (b : ℕ) (w comment : List ℕ) → is_word (b ∷ w) ≡ true → IsUtf8 comment → trim_end comment ≡ comment → IsTrimmed ((b ∷ w) ++ commented_text comment)
tail_trimmed b w [] h utf8 same = subst IsTrimmed (sym (append-nil (b ∷ w))) (lone_word b w h)
tail_trimmed b w (c ∷ comment) h utf8 same = behind_word b w (c ∷ comment) h utf8 (comment_ends (c ∷ comment) utf8 same) (omega arith)

word_alone : (w : List ℕ) → is_word w ≡ true → at_white_space w ≡ None
unfolding at_white_space
word_alone w h = rw (chars-IsAscii w (word_ascii w h), no_parts is_whitespace w (none_white w h))

word_parts : (w text : List ℕ) → is_word w ≡ true → IsUtf8 text → at_white_space (w ++ (32 ∷ text)) ≡ Some (w, text)
word_parts w text h utf8 =
    parts_of_chars (w ++ (32 ∷ text)) w (chars text) 32 w text (word_chars w text h utf8) (none_white w h) refl (encodes-IsAscii w (word_ascii w h)) (encodes-chars text utf8)

tail_fields : (w comment : List ℕ) → is_word w ≡ true → IsUtf8 comment → trim_start comment ≡ comment → trim_end comment ≡ comment
    → with_comment (w ++ commented_text comment) (at_white_space (w ++ commented_text comment)) ≡ (w, comment)
tail_fields w [] h utf8 starts ends = rw (append-nil w, word_alone w h)
tail_fields w (c ∷ comment) h utf8 starts ends =
    rw (word_parts w (c ∷ comment) h utf8) (ap (λ (t : List ℕ). (w, t)) (ap trim_end starts ∙ ends))

-- ---- the line

key_line_front : (name more : List ℕ) → is_key_line name ≡ true → is_key_line (name ++ more) ≡ true
key_line_front [] more h = absurd cc
key_line_front (b ∷ name) more h = h

-- a line of a name, and of a text that is read as base64 and a comment
found_line : (line : List ℕ) → lines line ≡ line ∷ [] → trim line ≡ line → is_key_line line ≡ true → key_line line ≡ Some line
unfolding key_line
found_line line lone same is = rw (lone, same, is)

line_fields : (name tail : List ℕ) → is_word name ≡ true → IsTrimmed tail → key_fields (name ++ (32 ∷ tail)) ≡ with_comment tail (at_white_space tail)
unfolding key_fields
line_fields name tail h is = rw (word_parts name tail h is.utf8, trimmed_start tail is)

-- a tail is no empty text
some_tail : (text : List ℕ) (b : ℕ) (bs : List ℕ) → chars text ≡ b ∷ bs → 0 < length text
unfolding chars
some_tail [] b bs e = absurd cc
some_tail (c ∷ text) b bs e = omega arith

line_read : (name tail base64 comment : List ℕ) (key : Key) → is_word name ≡ true → is_key_line name ≡ true → IsTrimmed tail → list_all is_no_feed tail ≡ true
    → with_comment tail (at_white_space tail) ≡ (base64, comment) → decoded_key base64 ≡ Ok key → public_key_in (name ++ (32 ∷ tail)) ≡ Ok (key, comment)
unfolding public_key_in
line_read [] tail base64 comment key h is trims feed fields decodes = absurd cc
line_read (b ∷ name) tail base64 comment key h is trims feed fields decodes =
    let line : List ℕ = (b ∷ name) ++ (32 ∷ tail) in
    let long : 0 < length tail = some_tail tail trims.first trims.others trims.parts in
    let whole : IsTrimmed line = behind_word b name tail h trims.utf8 trims.ends long in
    let lone : lines line ≡ line ∷ [] = one_line b (name ++ (32 ∷ tail)) (in_line (b ∷ name) (32 ∷ tail) (word_in_line (b ∷ name) h) feed) in
    let found : key_line line ≡ Some line = found_line line lone (trimmed line whole) (key_line_front (b ∷ name) (32 ∷ tail) is) in
    let parts : key_fields line ≡ (base64, comment) = line_fields (b ∷ name) tail h trims ∙ fields in
    ap key_of_line found ∙ ap (λ (f : List ℕ × List ℕ). commented_key f.1 (decoded_key f.0)) parts ∙ ap (commented_key comment) decodes

line_text : (name base64 comment : List ℕ) → name ++ (32 ∷ base64) ++ commented_text comment ≡ name ++ (32 ∷ (base64 ++ commented_text comment))
line_text name base64 comment = append_assoc name (32 ∷ base64) (commented_text comment)

written : (key : Key) (comment : List ℕ) → IsLineKey (key, comment) → IsUtf8 comment → decoded_key (key_base64 key) ≡ Ok key → (b : ℕ) (w : List ℕ) → key_base64 key ≡ b ∷ w
    → public_key_in (openssh_text key comment) ≡ Ok (key, comment)
written key comment is utf8 decodes b w some =
    let word : is_word (b ∷ w) ≡ true = ap is_word (sym some) ∙ base64_word (key_text key) in
    let trims : IsTrimmed ((b ∷ w) ++ commented_text comment) = tail_trimmed b w comment word utf8 is.ends in
    let feed : list_all is_no_feed ((b ∷ w) ++ commented_text comment) ≡ true = in_line (b ∷ w) (commented_text comment) (word_in_line (b ∷ w) word) (comment_in_line comment is.one_line) in
    ap public_key_in (line_text (key_name key) (key_base64 key) comment ∙ ap (λ (t : List ℕ). key_name key ++ (32 ∷ (t ++ commented_text comment))) some)
    ∙ line_read (key_name key) ((b ∷ w) ++ commented_text comment) (b ∷ w) comment key (name_word key is.fits.0) is.no_comment_line trims feed
    (tail_fields (b ∷ w) comment word utf8 is.starts is.ends) (ap decoded_key (sym some) ∙ decodes)

-- what is written for a key with its comment is read again
pub written_is_read : (key : Key × List ℕ) → IsLineKey key → IsUtf8 key.1 → decoded_key (key_base64 key.0) ≡ Ok key.0 → public_key_in (openssh_text key.0 key.1) ≡ Ok key
written_is_read (key, comment) is utf8 decodes = let some = base64_some key in written key comment is utf8 decodes some.0 some.1 some.2

-- a file of that line is loaded as the key
pub written_is_loaded : (key : Key × List ℕ) (line : List ℕ) → line ≡ openssh_text key.0 key.1 → IsUtf8 line → IsUtf8 key.1 → decoded_key (key_base64 key.0) ≡ Ok key.0
    → IsLineKey key → IsLoadedFrom key line
written_is_loaded key line same text utf8 decodes is path files holds =
    let found : found_in (bytes_of files path) ≡ found.Text line = ap found_in holds ∙ rw (is_utf8-from_IsUtf8 line text) refl in
    ap public_key_found found ∙ ap public_key_in same ∙ written_is_read key is utf8 decodes
