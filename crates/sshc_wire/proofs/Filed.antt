-- Text that is added to the file at an index.
use Rattle.std.proofs.Common.{◌≡◌, ℕ, suc, ◌<◌, Bool, true, List, ◌∷◌, ◌++◌, length, take, drop, get_or, cond, ap, sym, ◌∙◌}
use Rattle.std.specs.Prelude.{bytes_eq}
use Rattle.std.proofs.Math.ListN.{set}
use Rattle.std.proofs.Math.Seq.{drop-cons}
use Rattle.std.proofs.lemmas.List.{set_split}
use Rattle.sshc_wire.specs.Contents.{with_text}

abbrev File : Type 0
File = List ℕ × List ℕ

same_item : (files : List File) (i : ℕ) (x y : File) → i < length files → x ≡ get_or files i x → y ≡ get_or files i y → x ≡ y
same_item files i x y lt is_x is_y =
    let first : drop i files ≡ get_or files i x ∷ drop (suc i) files = drop-cons files i x lt in
    let second : drop i files ≡ get_or files i y ∷ drop (suc i) files = drop-cons files i y lt in
    cc

here : (file : File) (files : List File) (path text : List ℕ) → bytes_eq file.0 path ≡ true → with_text (file ∷ files) path text ≡ (file.0, file.1 ++ text) ∷ files
here file files path text h = ap (λ (b : Bool). cond b ((file.0, file.1 ++ text) ∷ files) (file ∷ with_text files path text)) h

pub set_text : (files : List File) (i : ℕ) (path text : List ℕ) (x y z : File) (bytes : List ℕ) → i < length files → x ≡ get_or files i x → y ≡ get_or files i y → z ≡ get_or files i z →
    bytes_eq x.0 path ≡ true → bytes ≡ y.1 ++ text → with_text files path text ≡ take i files ++ with_text (drop i files) path text → set files i (z.0, bytes) ≡ with_text files path text
set_text files i path text x y z bytes lt is_x is_y is_z h b behind =
    let xy : y ≡ x = same_item files i y x lt is_y is_x in
    let xz : z ≡ x = same_item files i z x lt is_z is_x in
    let front : drop i files ≡ x ∷ drop (suc i) files = drop-cons files i x lt ∙ ap (λ (f : File). f ∷ drop (suc i) files) (sym is_x) in
    set_split files i (z.0, bytes) lt
    ∙ ap (λ (f : File). take i files ++ (f.0, bytes) ∷ drop (suc i) files) xz
    ∙ ap (λ (t : List ℕ). take i files ++ (x.0, t) ∷ drop (suc i) files) (b ∙ ap (λ (f : File). f.1 ++ text) xy)
    ∙ ap (λ (fs : List File). take i files ++ fs) (sym (ap (λ (fs : List File). with_text fs path text) front ∙ here x (drop (suc i) files) path text h))
    ∙ sym behind
