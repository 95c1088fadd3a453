-- The judgement if one more line matches, and the keys of matching lines one after the other.
use Rattle.std.proofs.Common.{◌≡◌, ℕ, suc, ◌+◌, ◌<◌, Bool, true, false, List, [], ◌∷◌, ◌++◌, length, drop, map, get_or, Option, Some, None, Result, Ok, Err, refl, ap, sym, ◌∙◌, arith, append_assoc, drop-cons, subst}
use Rattle.std.specs.Prelude.{not, ◌&&◌, find, is_some, option_map}
use Rattle.std.specs.Option.{option_or}
use Rattle.std.proofs.lemmas.List.Folds.{find-append}
use Rattle.sshc_wire.specs.Reads.{◌>>=◌}
use Rattle.sshc_key.specs.KeyGrammar.{Key}
use Rattle.sshc_key.specs.KeyEq.{key_eq}
use Rattle.sshc_key.specs.KeyEq.{key_eq-Decides}
use Rattle.sshc_key.specs.KeyText.{decoded_key}
use Rattle.sshc_key.specs.Gives.{Fails}
use Rattle.sshc_key.specs.declared.error.Error.{Error}
use Rattle.sshc_key.specs.declared.error.Error.TheVariants.{NoMemory}
use Rattle.sshc_hosts.specs.declared.lines.KeyField.{KeyField}
use Rattle.sshc_hosts.specs.declared.marks.Mark.{Mark}
use Rattle.sshc_hosts.specs.declared.marks.Mark.TheVariants.{Recorded, Revoked}
use Rattle.sshc_hosts.specs.Learning.{once_learned}
use Rattle.sshc_hosts.specs.MatchingLines.{LineKey, line_seen, marked_as}
use Rattle.sshc_hosts.specs.Judgement.{KnownKey, KeysByMark, is_certificate, same_algorithm, contradicts, has_key, first_line, verdict, judged_among, with_key, and_key, and_line, read_lines, judged_by}

-- ---- reading one line after the other

-- the keys of some lines, and then those of later ones
abbrev pub keys_onto : KeysByMark → KeysByMark → KeysByMark
keys_onto front rest = record { recorded = front.recorded ++ rest.recorded; revoked = front.revoked ++ rest.revoked }

-- the result of reading one more line in front
abbrev pub with_line : ℕ × LineKey → Result Key Error → Result KeysByMark Error → Result KeysByMark Error
with_line line key rest = key >>= (λ k. rest >>= (λ keys. Ok (with_key line.1.mark (line.0, (k, [])) keys)))

one_key : (mark : Mark) (known : KnownKey) (front rest : KeysByMark) → keys_onto front (with_key mark known rest) ≡ keys_onto (and_key mark known front) rest
one_key Recorded known front rest =
    ap (λ (r : List KnownKey). record { recorded = r; revoked = front.revoked ++ rest.revoked }) (sym (append_assoc front.recorded (known ∷ []) rest.recorded))
one_key Revoked known front rest =
    ap (λ (r : List KnownKey). record { recorded = front.recorded ++ rest.recorded; revoked = r }) (sym (append_assoc front.revoked (known ∷ []) rest.revoked))

-- all lines have the keys of those before these, and then the keys of these
abbrev pub IsReadSoFar : List (ℕ × KeyField) → List (ℕ × KeyField) → KeysByMark → Type 0
IsReadSoFar all lines front = read_lines (map line_seen all) ≡ (read_lines (map line_seen lines) >>= (λ rest. Ok (keys_onto front rest)))

drop_next : (all : List (ℕ × KeyField)) (n : ℕ) (d : ℕ × KeyField) → n < length all → drop n all ≡ get_or all n d ∷ drop (n + 1) all
drop_next all n d within =
    let next : suc n ≡ n + 1 = omega arith in
    drop-cons all n d within ∙ ap (λ (m : ℕ). get_or all n d ∷ drop m all) next

and_case : (line : ℕ × LineKey) (front now : KeysByMark) (key : Result Key Error) (rest : Result KeysByMark Error)
    → (key >>= (λ k. Ok (and_key line.1.mark (line.0, (k, [])) front))) ≡ Ok now
    → (with_line line key rest >>= (λ keys. Ok (keys_onto front keys))) ≡ (rest >>= (λ keys. Ok (keys_onto now keys)))
and_case line front now (Err e) rest is = cc is
and_case line front now (Ok k) (Err e) is = refl
and_case line front now (Ok k) (Ok rest) is =
    let same : and_key line.1.mark (line.0, (k, [])) front ≡ now = cc is in
    ap (λ (keys : KeysByMark). Ok keys) (one_key line.1.mark (line.0, (k, [])) front rest ∙ ap (λ (n : KeysByMark). keys_onto n rest) same)

-- one line more
pub line_read : (all : List (ℕ × KeyField)) (n : ℕ) (d : ℕ × KeyField) (front now : KeysByMark) → n < length all → and_line (line_seen (get_or all n d)) front ≡ Ok now
    → IsReadSoFar all (drop n all) front → IsReadSoFar all (drop (n + 1) all) now
line_read all n d front now within is so_far =
    so_far
    ∙ ap (λ (lines : List (ℕ × KeyField)). read_lines (map line_seen lines) >>= (λ rest. Ok (keys_onto front rest))) (drop_next all n d within)
    ∙ and_case (line_seen (get_or all n d)) front now (decoded_key (get_or all n d).1.text.now) (read_lines (map line_seen (drop (n + 1) all))) is

fails_case : (e : Error) (line : ℕ × LineKey) (front : KeysByMark) (key : Result Key Error) (rest : Result KeysByMark Error)
    → Fails e (key >>= (λ k. Ok (and_key line.1.mark (line.0, (k, [])) front))) → Fails e (with_line line key rest >>= (λ keys. Ok (keys_onto front keys)))
fails_case NoMemory line front key rest h = tt
fails_case e line front (Ok k) rest h = cc h
fails_case e line front (Err d) rest h = h

-- a line that can't be read
pub line_failed : (e : Error) (all : List (ℕ × KeyField)) (n : ℕ) (d : ℕ × KeyField) (front : KeysByMark) → n < length all → Fails e (and_line (line_seen (get_or all n d)) front)
    → IsReadSoFar all (drop n all) front → Fails e (read_lines (map line_seen all))
line_failed e all n d front within fails so_far =
    subst (λ (r : Result KeysByMark Error). Fails e r)
    (sym (so_far ∙ ap (λ (lines : List (ℕ × KeyField)). read_lines (map line_seen lines) >>= (λ rest. Ok (keys_onto front rest))) (drop_next all n d within)))
    (fails_case e (line_seen (get_or all n d)) front (decoded_key (get_or all n d).1.text.now) (read_lines (map line_seen (drop (n + 1) all))) fails)

-- ---- reading one more line

key_between : (mark : Mark) (known last : KnownKey) (keys : KeysByMark) → with_key mark known (and_key Recorded last keys) ≡ and_key Recorded last (with_key mark known keys)
key_between Recorded known last keys = refl
key_between Revoked known last keys = refl

more_case : (line : ℕ × LineKey) (key : Result Key Error) (rest : Result KeysByMark Error) (last : KnownKey)
    → with_line line key (rest >>= (λ keys. Ok (and_key Recorded last keys))) ≡ (with_line line key rest >>= (λ keys. Ok (and_key Recorded last keys)))
more_case line (Ok key) (Ok keys) last = ap (λ (k : KeysByMark). Ok k) (key_between line.1.mark (line.0, (key, [])) last keys)
more_case line (Ok key) (Err e) last = refl
more_case line (Err e) rest last = refl

read_lines-more : (found : List (ℕ × LineKey)) (n : ℕ) (field : List ℕ) (key : Key) → decoded_key field ≡ Ok key
    → read_lines (found ++ (n, marked_as Recorded field) ∷ []) ≡ (read_lines found >>= (λ keys. Ok (and_key Recorded (n, (key, [])) keys)))
read_lines-more [] n field key is = rw is refl
read_lines-more (line ∷ found) n field key is =
    ap (with_line line (decoded_key line.1.text)) (read_lines-more found n field key is) ∙ more_case line (decoded_key line.1.text) (read_lines found) (n, (key, []))

-- ---- one more key

same_itself : (key : Key) → key_eq key key ≡ true
same_itself key = (key_eq-Decides key key).1 refl

-- a line with the key doesn't contradict it
no_case : (same equal : Bool) → equal ≡ true → (same && not equal) ≡ false
no_case true equal e = ap not e
no_case false equal e = refl

find_none : (p : KnownKey → Bool) (x : KnownKey) → p x ≡ false → find p (x ∷ []) ≡ None
find_none p x e = rw e refl

find_it : (p : KnownKey → Bool) (x : KnownKey) → p x ≡ true → find p (x ∷ []) ≡ Some x
find_it p x e = rw e refl

or_none : (o : Option KnownKey) → option_or o None ≡ o
or_none None = refl
or_none (Some x) = refl

number_of : Option KnownKey → Option ℕ
number_of o = option_map (λ known. known.0) o

or_some : (o : Option KnownKey) (x : KnownKey) → is_some (number_of (option_or o (Some x))) ≡ true
unfolding number_of
or_some None x = refl
or_some (Some y) x = refl

verdict_case : (revoking contrary old new : Option ℕ) → is_some new ≡ true → verdict revoking contrary new ≡ once_learned (verdict revoking contrary old)
verdict_case (Some line) contrary old new e = refl
verdict_case None (Some line) old new e = refl
verdict_case None None old new e = ap Ok e

among-more : (key : Key) (keys : KeysByMark) (n : ℕ) → judged_among key (and_key Recorded (n, (key, [])) keys) ≡ once_learned (judged_among key keys)
unfolding number_of
among-more key keys n =
    let x : KnownKey = (n, (key, [])) in
    let harmless : contradicts key x ≡ false = no_case (same_algorithm key key) (key_eq key key) (same_itself key) in
    let contrary : find (contradicts key) (keys.recorded ++ x ∷ []) ≡ find (contradicts key) keys.recorded =
    find-append (contradicts key) keys.recorded (x ∷ []) ∙ ap (option_or (find (contradicts key) keys.recorded)) (find_none (contradicts key) x harmless)
    ∙ or_none (find (contradicts key) keys.recorded) in
    let same : find (has_key key) (keys.recorded ++ x ∷ []) ≡ option_or (find (has_key key) keys.recorded) (Some x) =
    find-append (has_key key) keys.recorded (x ∷ []) ∙ ap (option_or (find (has_key key) keys.recorded)) (find_it (has_key key) x (same_itself key)) in
    let records : is_some (first_line (has_key key) (keys.recorded ++ x ∷ [])) ≡ true =
    ap (λ (o : Option KnownKey). is_some (number_of o)) same ∙ or_some (find (has_key key) keys.recorded) x in
    ap (λ (o : Option KnownKey). verdict (first_line (has_key key) keys.revoked) (number_of o) (first_line (has_key key) (keys.recorded ++ x ∷ []))) contrary
    ∙ verdict_case (first_line (has_key key) keys.revoked) (first_line (contradicts key) keys.recorded) (first_line (has_key key) keys.recorded)
    (first_line (has_key key) (keys.recorded ++ x ∷ [])) records

judged_case : (key : Key) (n : ℕ) (keys : Result KeysByMark Error)
    → ((keys >>= (λ ks. Ok (and_key Recorded (n, (key, [])) ks))) >>= judged_among key) ≡ once_learned (keys >>= judged_among key)
judged_case key n (Ok keys) = among-more key keys n
judged_case key n (Err e) = refl

-- a key that is no certificate, if one more line matches that records it
pub judged-more : (found : List (ℕ × LineKey)) (n : ℕ) (field : List ℕ) (key : Key) → is_certificate key ≡ false → decoded_key field ≡ Ok key
    → judged_by (read_lines (found ++ (n, marked_as Recorded field) ∷ [])) key ≡ once_learned (judged_by (read_lines found) key)
judged-more found n field key plain is =
    rw plain (ap (λ keys. keys >>= judged_among key) (read_lines-more found n field key is) ∙ judged_case key n (read_lines found))
