-- Texts that were read as strings, and lists of which some values were read.
use Rattle.std.proofs.Common.{◌≡◌, ℕ, suc, ◌+◌, ◌-◌, ◌<◌, Bool, true, false, cond, List, [], ◌∷◌, ◌++◌, length, Option, Some, None, Result, Ok, Err, refl, ap, sym, ◌∙◌, arith, append_assoc}
use Rattle.std.specs.Int.{w32, from_be_bytes}
use Rattle.std.proofs.lemmas.Nat.{be_bytes_4}
use Rattle.sshc_wire.specs.Wire.{IsBytes, u32_text}
use Rattle.std.proofs.lemmas.List.{append-nil}
use Rattle.std.specs.Str.{is_utf8}
use Rattle.std.specs.List.{cons_option, filter_map}
use Rattle.sshc_wire.specs.Counted.{times_at}
use Rattle.sshc_wire.specs.Methods.{method_of}
use Rattle.sshc_wire.specs.Signals.{signal_of}
use Rattle.sshc_wire.specs.declared.signal.Sig.{Sig}
use Rattle.sshc_wire.specs.Names.{names_in}
use Rattle.sshc_wire.specs.RecordReads.{method_list_at, name_list_at, signal_at}
use Rattle.sshc_wire.specs.declared.methods.MethodKind.{MethodKind}
use Rattle.sshc_wire.specs.Format.{done}
use Rattle.sshc_wire.specs.FormatLaws.{bind_ok}
use Rattle.sshc_wire.specs.Reads.{Reader, ◌>>=◌, string_at, text_at}
use Rattle.sshc_wire.specs.declared.error.WireError.{WireError}
use Rattle.sshc_wire.specs.declared.error.WireError.TheVariants.{NotText}

passed : {A : Type 0} (b : Bool) (x y : A) (e : WireError) → cond b (Ok x) (Err e) ≡ Ok y → x ≡ y
passed true x y e h = cc
passed false x y e h = absurd cc

-- four bytes are those of the number that they encode
pub four_bytes : (bytes : List ℕ) → length bytes ≡ 4 → IsBytes bytes → bytes ≡ u32_text (from_be_bytes w32 bytes)
unfolding u32_text
four_bytes bytes len fits = sym (be_bytes_4 bytes _ len fits refl)

-- a text is a string
pub text_string : (bytes t rest : List ℕ) → text_at bytes ≡ Ok (t, rest) → string_at bytes ≡ Ok (t, rest)
unfolding text_at
text_string bytes t rest e =
    let b = bind_ok (string_at bytes) (λ x. cond (is_utf8 x.0) (Ok x) (Err NotText)) (t, rest) e in
    b.1 ∙ ap (λ (x : List ℕ × List ℕ). done {E = WireError} x) (passed (is_utf8 b.0.0) b.0 (t, rest) NotText b.2)

-- ---- signals

pub signal_read : (bytes name rest : List ℕ) (s : Sig) → text_at bytes ≡ Ok (name, rest) → s ≡ signal_of name → signal_at bytes ≡ Ok (s, rest)
unfolding signal_at
signal_read bytes name rest s read is = rw (text_string bytes name rest read) (ap (λ (g : Sig). done {E = WireError} (g, rest)) (sym is))

-- ---- methods

first_known : (o : Option MethodKind) (ms : List MethodKind) → cons_option o ms ≡ cons_option o [] ++ ms
first_known None ms = refl
first_known (Some m) ms = refl

-- the methods whose names a text joins
pub methods_read : (bytes t rest : List ℕ) → text_at bytes ≡ Ok (t, rest) → method_list_at bytes ≡ Ok (filter_map method_of (names_in t), rest)
unfolding method_list_at name_list_at
methods_read bytes t rest e = rw (text_string bytes t rest e) refl

-- one name more was read
pub known_more : (names : List (List ℕ)) (old new : List MethodKind) (before left : List (List ℕ)) (name : List ℕ) → filter_map method_of names ≡ old ++ filter_map method_of before → before ≡ name ∷ left
    → new ≡ old ++ filter_map method_of (name ∷ []) → filter_map method_of names ≡ new ++ filter_map method_of left
known_more names old new before left name are is now =
    are ∙ ap (λ (names : List (List ℕ)). old ++ filter_map method_of names) is
    ∙ ap (λ (ms : List MethodKind). old ++ ms) (first_known (method_of name) (filter_map method_of left))
    ∙ sym (append_assoc old (filter_map method_of (name ∷ [])) (filter_map method_of left))
    ∙ ap (λ (ms : List MethodKind). ms ++ filter_map method_of left) (sym now)

-- ---- counted lists: the values that were read, and then those that are still to be read

-- these values before those that are read next
abbrev pub behind : {A : Type 0} → List A → Result (List A × List ℕ) WireError → Result (List A × List ℕ) WireError
behind xs (Ok ys) = Ok (xs ++ ys.0, ys.1)
behind xs (Err e) = Err e

one_more : {A : Type 0} (xs : List A) (x : A) (r : Result (List A × List ℕ) WireError) → behind xs (r >>= λ ys. Ok (x ∷ ys.0, ys.1)) ≡ behind (xs ++ x ∷ []) r
one_more {A} xs x (Ok ys) = ap (λ (l : List A). done {E = WireError} (l, ys.1)) (sym (append_assoc xs (x ∷ []) ys.0))
one_more xs x (Err e) = refl

next_is : {A : Type 0} (f : Reader WireError A) (n i : ℕ) (c : List ℕ) → i < n → times_at (n - i) f c ≡ times_at (suc (n - (i + 1))) f c
next_is f n i c h = let k : n - i ≡ suc (n - (i + 1)) = omega arith in ap (λ (m : ℕ). times_at m f c) k

-- one value more was read
pub took : {A : Type 0} (f : Reader WireError A) (n i : ℕ) (xs : List A) (c later : List ℕ) (x : A) → i < n → f c ≡ Ok (x, later) → behind xs (times_at (n - i) f c) ≡ behind (xs ++ x ∷ []) (times_at (n - (i + 1)) f later)
took {A} f n i xs c later x h e =
    ap (behind xs) (next_is f n i c h) ∙ ap (λ (r : Result (A × List ℕ) WireError). behind xs (r >>= λ y. times_at (n - (i + 1)) f y.1 >>= λ ys. Ok (y.0 ∷ ys.0, ys.1))) e ∙ one_more xs x (times_at (n - (i + 1)) f later)

none_before : {A : Type 0} (r : Result (List A × List ℕ) WireError) → behind [] r ≡ r
none_before (Ok ys) = refl
none_before (Err e) = refl

-- none was read
pub none_taken : {A : Type 0} (f : Reader WireError A) (n : ℕ) (c : List ℕ) → behind [] (times_at (n - 0) f c) ≡ times_at n f c
none_taken {A} f n c = let k : n - 0 ≡ n = omega arith in ap (λ (m : ℕ). behind [] (times_at m f c)) k ∙ none_before (times_at n f c)

-- all were read
pub all_taken : {A : Type 0} (f : Reader WireError A) (n i : ℕ) (xs : List A) (c : List ℕ) → i ≡ n → behind xs (times_at (n - i) f c) ≡ Ok (xs, c)
all_taken {A} f n i xs c h = let k : n - i ≡ 0 = omega arith in ap (λ (m : ℕ). behind xs (times_at m f c)) k ∙ ap (λ (l : List A). done {E = WireError} (l, c)) (append-nil xs)
