-- Reading values one after another, as a loop does.
use Rattle.std.proofs.Common.{◌≡◌, ℕ, ◌<◌, Bool, true, false, cond, List, [], ◌∷◌, ◌++◌, length, Result, Ok, Err, refl, sym, ap, ◌∙◌, append_assoc, arith}
use Rattle.std.specs.Str.{is_utf8}
use Rattle.std.proofs.lemmas.List.{append-nil}
use Rattle.sshc_wire.specs.declared.error.WireError.TheVariants.{NotText}
use Rattle.sshc_wire.specs.Reads.{Reader, ◌>>=◌, string_at, text_at}
use Rattle.sshc_wire.specs.FormatLaws.{bind_ok, ok_is, faults_ok}
use Rattle.sshc_wire.specs.PartsLaws.{string_takes_bytes}
use Rattle.sshc_wire.specs.Whole.{Takes, all_at}
use Rattle.sshc_wire.specs.WholeLaws.{all_none, all_more, all_fails}
use Rattle.sshc_key.specs.declared.error.Error.{Error}
use Rattle.sshc_key.specs.declared.error.Error.TheVariants as errors
use Rattle.sshc_key.specs.Gives.{Fails}
use Rattle.sshc_key.specs.KeyReading.{as_encoding, utf8_at, octets_at, option_at}

-- what was read before, and what is still read
abbrev pub with_front : {A : Type 0} → List A → Result (List A) Error → Result (List A) Error
with_front front read = read >>= λ xs. Ok (front ++ xs)

regroup : {A : Type 0} (front : List A) (x : A) (read : Result (List A) Error) → with_front front (read >>= λ xs. Ok (x ∷ xs)) ≡ with_front (front ++ x ∷ []) read
regroup {A} front x (Ok xs) = ap (λ (ys : List A). Ok ys) (sym (append_assoc front (x ∷ []) xs))
regroup front x (Err e) = refl

pub goes_on : {A : Type 0} (f : Reader Error A) (front : List A) (bytes : List ℕ) (x : A) (rest : List ℕ) (total : Result (List A) Error) → Takes f → f bytes ≡ Ok (x, rest)
    → with_front front (all_at f bytes) ≡ total → with_front (front ++ x ∷ []) (all_at f rest) ≡ total
goes_on f front bytes x rest total t e so_far = sym (ap (with_front front) (all_more f t bytes x rest e) ∙ regroup front x (all_at f rest)) ∙ so_far

pub ends : {A : Type 0} (f : Reader Error A) (e : Error) (front : List A) (bytes : List ℕ) (total : Result (List A) Error) → 0 < length bytes → Fails e (f bytes)
    → with_front front (all_at f bytes) ≡ total → Fails e total
ends f errors.NoMemory front bytes total h fails so_far = tt
ends f e front bytes total h fails so_far = sym so_far ∙ ap (with_front front) (all_fails f bytes e h fails)

text_takes : Takes text_at
unfolding text_at
text_takes bytes x rest e =
    let a = bind_ok (string_at bytes) (λ t. cond (is_utf8 t.0) (Ok t) (Err NotText)) (x, rest) e in
    let is = chosen_is (is_utf8 a.0.0) a.0 (x, rest) a.2 in
    string_takes_bytes bytes x rest (a.1 ∙ ap (λ (p : List ℕ × List ℕ). Ok p) is)
  where
    chosen_is : {B : Type 0} (b : Bool) (y z : B) → cond b (Ok y) (Err NotText) ≡ Ok z → y ≡ z
    chosen_is true y z e = cc
    chosen_is false y z e = absurd cc

pub utf8_takes : Takes utf8_at
unfolding utf8_at
utf8_takes bytes x rest e = text_takes bytes x rest (faults_ok as_encoding (text_at bytes) (x, rest) e)

octets_take : Takes octets_at
unfolding octets_at
octets_take bytes x rest e = string_takes_bytes bytes x rest (faults_ok as_encoding (string_at bytes) (x, rest) e)

pub option_takes : Takes option_at
unfolding option_at
option_takes bytes x rest e =
    let a = bind_ok (utf8_at bytes) (λ a. octets_at a.1 >>= λ b. Ok ((a.0, b.0), b.1)) (x, rest) e in
    let b = bind_ok (octets_at a.0.1) (λ b. Ok ((a.0.0, b.0), b.1)) (x, rest) a.2 in
    let one = utf8_takes bytes a.0.0 a.0.1 a.1 in
    let two = octets_take a.0.1 b.0.0 b.0.1 b.1 in
    let is : b.0.1 ≡ rest = ap (λ (p : (List ℕ × List ℕ) × List ℕ). p.1) (ok_is {E = Error} ((a.0.0, b.0.0), b.0.1) (x, rest) b.2) in
    omega (arith, ap length is)

pub is_done : {A : Type 0} (f : Reader Error A) (front : List A) (bytes : List ℕ) (total : Result (List A) Error) → length bytes ≡ 0 → with_front front (all_at f bytes) ≡ total → total ≡ Ok front
is_done f front [] total h so_far = sym so_far ∙ ap (with_front front) (all_none f) ∙ ap (λ (ys : List _). Ok ys) (append-nil front)
is_done f front (b ∷ bytes) total h so_far = absurd (omega arith)
