-- Lists of names and of methods are read again.
use Rattle.std.proofs.Common.{◌≡◌, ℕ, ◌*◌, ◌<◌, ◌≤◌, ◌^◌, Bool, true, false, List, [], ◌∷◌, ◌++◌, length, map, Option, Some, Ok, refl, sym, ap, ◌∙◌, arith, length-append}
use Rattle.std.specs.Prelude.{filter, not}
use Rattle.std.specs.List.{cons_option, filter_map, flat_map, join_with_byte, list_all, list_any, onto_first, slice_split}
use Rattle.std.proofs.lemmas.List.{append-nil}
use Rattle.std.proofs.lemmas.List.Splits.{slice_split-cons_no}
use Rattle.std.proofs.lemmas.List.Concat.{flat_map-cons}
use Rattle.sshc_wire.specs.CasesLaws.{both_true, neither}
use Rattle.sshc_wire.specs.Methods.{method_name, method_of}
use Rattle.sshc_wire.specs.Names.{behind_comma, is_comma, is_name, names_in}
use Rattle.sshc_wire.specs.PartsLaws.{strings}
use Rattle.sshc_wire.specs.Wire.{IsShort, names_text}
use Rattle.sshc_wire.specs.declared.methods.MethodKind.{MethodKind}
use Rattle.sshc_wire.specs.declared.methods.MethodKind.TheVariants as methods
use Rattle.sshc_wire.specs.Fitting.{AreNames, is_listable}
use Rattle.sshc_wire.specs.RecordReads.{method_list_at, name_list_at}

-- a name without commas is split off whole
split_first : (name rest : List ℕ) → list_any is_comma name ≡ false → slice_split is_comma (name ++ 44 ∷ rest) ≡ name ∷ slice_split is_comma rest
split_first [] rest none = refl
split_first (x ∷ name) rest none =
    let h = neither (is_comma x) (list_any is_comma name) none in
    slice_split-cons_no is_comma x (name ++ 44 ∷ rest) h.0 ∙ ap (onto_first x) (split_first name rest h.1)

split_whole : (name : List ℕ) → list_any is_comma name ≡ false → slice_split is_comma name ≡ name ∷ []
split_whole [] none = refl
split_whole (x ∷ name) none =
    let h = neither (is_comma x) (list_any is_comma name) none in
    slice_split-cons_no is_comma x name h.0 ∙ ap (onto_first x) (split_whole name h.1)

not_false : (b : Bool) → not b ≡ true → b ≡ false
not_false true h = absurd cc
not_false false h = refl

named : (name : List ℕ) (parts : List (List ℕ)) → is_name name ≡ true → filter is_name (name ∷ parts) ≡ name ∷ filter is_name parts
named name parts is = rw is refl

pub names_again : (names : List (List ℕ)) → list_all is_listable names ≡ true → names_in (join_with_byte 44 names) ≡ names
unfolding names_in
names_again [] all = refl
names_again (name ∷ []) all =
    let h = both_true (is_listable name) true all in
    let k = both_true (is_name name) (not (list_any is_comma name)) h.0 in
    ap (filter is_name) (split_whole name (not_false (list_any is_comma name) k.1)) ∙ named name [] k.0
names_again (name ∷ next ∷ names) all =
    let h = both_true (is_listable name) (list_all is_listable (next ∷ names)) all in
    let k = both_true (is_name name) (not (list_any is_comma name)) h.0 in
    ap (filter is_name) (split_first name (join_with_byte 44 (next ∷ names)) (not_false (list_any is_comma name) k.1))
    ∙ named name (slice_split is_comma (join_with_byte 44 (next ∷ names))) k.0
    ∙ ap (λ (ns : List (List ℕ)). name ∷ ns) (names_again (next ∷ names) h.1)

pub again_names : (names : List (List ℕ)) (rest : List ℕ) → AreNames names → name_list_at (names_text names ++ rest) ≡ Ok (names, rest)
unfolding name_list_at names_text
again_names names rest are = rw (strings.again (join_with_byte 44 names) rest are.short) (ap (λ (ns : List (List ℕ)). Ok (ns, rest)) (names_again names are.listable))

pub last_names : (names : List (List ℕ)) → AreNames names → name_list_at (names_text names) ≡ Ok (names, [])
last_names names are = ap name_list_at (sym (append-nil (names_text names))) ∙ again_names names [] are

joined_shorter : (names : List (List ℕ)) → length (join_with_byte 44 names) ≤ length (flat_map behind_comma names)
joined_shorter [] = omega arith
joined_shorter (name ∷ []) = omega (arith, ap length (flat_map-cons behind_comma name []), length-append name (flat_map behind_comma []))
joined_shorter (name ∷ next ∷ names) =
    omega (arith, joined_shorter (next ∷ names), ap length (flat_map-cons behind_comma name (next ∷ names)), length-append name (flat_map behind_comma (next ∷ names)), length-append name (44 ∷ join_with_byte 44 (next ∷ names)))

pub names_fit : (names : List (List ℕ)) → list_all is_listable names ≡ true → length (flat_map behind_comma names) < 2 ^ 32 → AreNames names
names_fit names all short = record { short = omega (arith, joined_shorter names, short); listable = all }

-- ---- methods

method_listable : (m : MethodKind) → is_listable (method_name m) ≡ true
method_listable methods.None = refl
method_listable methods.Password = refl
method_listable methods.PublicKey = refl
method_listable methods.HostBased = refl
method_listable methods.KeyboardInteractive = refl
method_listable methods.GssapiWithMic = refl

method_known : (m : MethodKind) → method_of (method_name m) ≡ Some m
method_known methods.None = refl
method_known methods.Password = refl
method_known methods.PublicKey = refl
method_known methods.HostBased = refl
method_known methods.KeyboardInteractive = refl
method_known methods.GssapiWithMic = refl

all_listable : (ms : List MethodKind) → list_all is_listable (map method_name ms) ≡ true
all_listable [] = refl
all_listable (m ∷ ms) = rw (method_listable m, all_listable ms) refl

all_known : (ms : List MethodKind) → filter_map method_of (map method_name ms) ≡ ms
all_known [] = refl
all_known (m ∷ ms) = ap (λ (o : Option MethodKind). cons_option o (filter_map method_of (map method_name ms))) (method_known m) ∙ ap (λ (rest : List MethodKind). m ∷ rest) (all_known ms)

pub again_methods : (ms : List MethodKind) (rest : List ℕ) → IsShort (join_with_byte 44 (map method_name ms)) → method_list_at (names_text (map method_name ms) ++ rest) ≡ Ok (ms, rest)
unfolding method_list_at
again_methods ms rest short =
    rw (again_names (map method_name ms) rest (record { short = short; listable = all_listable ms })) (ap (λ (known : List MethodKind). Ok (known, rest)) (all_known ms))

method_size : (m : MethodKind) → length (method_name m) ≤ 20
method_size methods.None = omega arith
method_size methods.Password = omega arith
method_size methods.PublicKey = omega arith
method_size methods.HostBased = omega arith
method_size methods.KeyboardInteractive = omega arith
method_size methods.GssapiWithMic = omega arith

methods_size : (ms : List MethodKind) → length (join_with_byte 44 (map method_name ms)) ≤ 21 * length ms
methods_size [] = omega arith
methods_size (m ∷ []) = omega (arith, method_size m)
methods_size (m ∷ n ∷ ms) = omega (arith, method_size m, methods_size (n ∷ ms), length-append (method_name m) (44 ∷ join_with_byte 44 (map method_name (n ∷ ms))))

-- the names of a few methods are a string
pub methods_short : (ms : List MethodKind) → length ms ≤ 6 → IsShort (join_with_byte 44 (map method_name ms))
methods_short ms few = omega (arith, methods_size ms)
