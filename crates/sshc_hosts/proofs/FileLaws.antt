-- How learning a key in a file affects the judgement by that file.
use Rattle.std.proofs.Common.{◌≡◌, ℕ, Bool, true, false, List, [], ◌∷◌, ◌++◌, Option, Some, None, Result, Ok, Err, OnOk, refl, ap, sym, ◌∙◌, subst}
use Rattle.std.specs.Prelude.{bytes_eq, if◌then◌else◌, option_map}
use Rattle.std.specs.Str.{is_utf8, IsUtf8}
use Rattle.std.proofs.lemmas.Slice.Eq.{bytes_eq-Decides}
use Rattle.std.proofs.lemmas.Str.{IsUtf8-append, is_utf8-from_IsUtf8}
use Rattle.sshc_wire.specs.Contents.{bytes_of, with_text}
use Rattle.sshc_wire.specs.Reads.{◌>>=◌}
use Rattle.sshc_key.specs.KeyGrammar.{Key}
use Rattle.sshc_key.specs.declared.error.Error.{Error}
use Rattle.sshc_key.specs.declared.error.Error.TheVariants.{Utf8}
use Rattle.sshc_hosts.specs.Judgement.{judged}
use Rattle.sshc_hosts.specs.Learning.{Learns, once_learned}
use Rattle.sshc_key.specs.KeyFiles.{Told, AnswersBy}
use Rattle.sshc_hosts.specs.HostsFile.{text_found, text_at, judged_at, LearnsAt, LearnsIn}

-- the bytes of a file; empty if there is no file
held : Option (List ℕ) → List ℕ
held None = []
held (Some bytes) = bytes

added_case : (file : List ℕ × List ℕ) (files : Told) (path added : List ℕ) (b : Bool) → bytes_eq file.0 path ≡ b
    → bytes_of (with_text files path added) path ≡ Some (held (bytes_of files path) ++ added)
    → bytes_of (with_text (file ∷ files) path added) path ≡ Some (held (bytes_of (file ∷ files) path) ++ added)
unfolding held
added_case file files path added true e later = rw (e, e) refl
added_case file files path added false e later = rw (e, e) later

bytes_of-with_text : (files : Told) (path added : List ℕ) → bytes_of (with_text files path added) path ≡ Some (held (bytes_of files path) ++ added)
unfolding held
bytes_of-with_text [] path added = let same : bytes_eq path path ≡ true = (bytes_eq-Decides path path).1 refl in rw same refl
bytes_of-with_text (file ∷ files) path added = added_case file files path added (bytes_eq file.0 path) refl (bytes_of-with_text files path added)

utf8_case : (bytes text : List ℕ) (b : Bool) → (if b then Ok bytes else Err Utf8) ≡ Ok text → bytes ≡ text
utf8_case bytes text true e = cc
utf8_case bytes text false e = cc

found_is : (o : Option (List ℕ)) (text : List ℕ) → text_found o ≡ Ok text → held o ≡ text
unfolding held
found_is None text e = cc
found_is (Some bytes) text e = utf8_case bytes text (is_utf8 bytes) e

-- the text of a file to which text was added
text_at-added : (files : Told) (path text added : List ℕ) → text_at files path ≡ Ok text → IsUtf8 text → IsUtf8 added → text_at (with_text files path added) path ≡ Ok (text ++ added)
text_at-added files path text added is utf8 more =
    let whole : is_utf8 (text ++ added) ≡ true = is_utf8-from_IsUtf8 (text ++ added) (IsUtf8-append text added utf8 more) in
    ap text_found (bytes_of-with_text files path added ∙ ap (λ before. Some (before ++ added)) (found_is (bytes_of files path) text is))
    ∙ ap (λ b. if b then Ok (text ++ added) else Err Utf8) whole

-- a judgement by a file whose text is known
judged_by_text : (files : Told) (path text host : List ℕ) (key : Key) → text_at files path ≡ Ok text → judged_at path host key files ≡ judged text host key
judged_by_text files path text host key is = ap (λ found. found >>= (λ t. judged t host key)) is

learns_at : (files : Told) (path text added host : List ℕ) (key : Key) → text_at files path ≡ Ok text → IsUtf8 text → IsUtf8 added → Learns text added host key
    → LearnsAt files (with_text files path added) path host key
learns_at files path text added host key is utf8 more law =
    let now : text_at (with_text files path added) path ≡ Ok (text ++ added) = text_at-added files path text added is utf8 more in
    record {
      accepted = judged_by_text (with_text files path added) path (text ++ added) host key now ∙ law.accepted ∙ ap once_learned (sym (judged_by_text files path text host key is));
      others = λ other k apart. judged_by_text (with_text files path added) path (text ++ added) other k now ∙ law.others other k apart ∙ sym (judged_by_text files path text other k is);
    }

-- the same, for the files as far as contracts see them
learns_told : (old new : Option Told) (path text added host : List ℕ) (key : Key) → AnswersBy {X = List ℕ} (λ t. t) (Ok text) old (λ told. text_at told path)
    → IsUtf8 text → IsUtf8 added → Learns text added host key → new ≡ option_map (λ told. with_text told path added) old → LearnsIn old new path host key
learns_told None new path text added host key is utf8 more law e = tt
learns_told (Some files) new path text added host key is utf8 more law e =
    subst (λ (n : Option Told). LearnsIn (Some files) n path host key) (sym e) (learns_at files path text added host key is utf8 more law)

pub learns_in : (result : Result (Unit {0}) Error) (old new : Option Told) (path text added host : List ℕ) (key : Key)
    → AnswersBy {X = List ℕ} (λ t. t) (Ok text) old (λ told. text_at told path) → IsUtf8 text → IsUtf8 added → Learns text added host key
    → OnOk result (new ≡ option_map (λ told. with_text told path added) old) → OnOk result (LearnsIn old new path host key)
learns_in (Ok done) old new path text added host key is utf8 more law e = learns_told old new path text added host key is utf8 more law e
learns_in (Err failed) old new path text added host key is utf8 more law e = tt
