-- Which blobs are read.
use Rattle.std.proofs.Common.{◌≡◌, ◌↔◌, ℕ, ◌<◌, ◌≤◌, Bool, true, false, cond, leb, List, [], ◌∷◌, ◌++◌, Option, Some, None, Result, Ok, Err, refl, sym, ap, subst, length, ◌∙◌, append-nil, arith, ◌⊎◌, inl, inr}
use Rattle.std.proofs.lemmas.Bool.{leb-true, le-leb}
use Rattle.sshc_wire.specs.Wire.{IsBytes}
use Rattle.sshc_wire.specs.Format.{faults_as}
use Rattle.sshc_wire.specs.FormatLaws.{faults_ok}
use Rattle.sshc_key.specs.declared.error.Error.{Error}
use Rattle.sshc_key.specs.declared.error.Error.TheVariants.{SshKey}
use Rattle.sshc_key.specs.declared.error.Error.TheVariants as errors
use Rattle.sshc_key.specs.Gives.{Fails}
use Rattle.sshc_key.specs.KeyGrammar.{Key, key_text, Fits}
use Rattle.sshc_key.specs.KeyReading.{key_at}
use Rattle.sshc_key.specs.Nesting.{markers, IsReadable, IsBlobOf, outside, front_of, whole_of, front_at, blob_key, whole_blob_key, key_or_fault}
use Rattle.sshc_key.specs.KeyLaws.Keys.{keys}
use Rattle.sshc_key.specs.KeyLaws.Markers.{depth_marked, markers_append}

-- a fault of reading, and the error that is returned for it
pub fails_outside : {A : Type 0} (e : Error) (r : Result A Error) → Fails e r → Fails (outside e) (faults_as (λ d. SshKey) r)
fails_outside errors.NoMemory r h = tt
fails_outside e r h = rw h refl

-- ---- the key at the front

abbrev Front : Type 0
Front = Result (Key × List ℕ) Error

bounded : (b : Bool) (r : Front) (x : Key × List ℕ) → cond b r (Err SshKey) ≡ Ok x → (b ≡ true) × (r ≡ Ok x)
bounded true r x e = (refl, e)
bounded false r x e = absurd cc

front_there : (blob : List ℕ) (k : Key) (rest : List ℕ) → IsBytes blob → front_at blob ≡ Ok (k, rest) → (markers blob ≤ 8) × Fits k × (blob ≡ key_text k ++ rest)
unfolding front_at
front_there blob k rest bytes e =
    let b = bounded (leb (markers blob) 8) (faults_as (λ d. SshKey) (key_at 9 blob)) (k, rest) e in
    let few : markers blob ≤ 8 = leb-true _ _ b.0 in
    let h = (keys 9).takes blob k rest bytes (faults_ok (λ d. SshKey) (key_at 9 blob) (k, rest) b.1) in
    (few, h.1.0, h.0)

front_back : (blob : List ℕ) (k : Key) (rest : List ℕ) → markers blob ≤ 8 → Fits k → blob ≡ key_text k ++ rest → front_at blob ≡ Ok (k, rest)
unfolding front_at
front_back blob k rest few fits front =
    let deep = depth_marked k fits in
    let all = markers_append (key_text k) rest in
    let same : markers blob ≡ markers (key_text k ++ rest) = ap markers front in
    let short : leb (markers blob) 8 ≡ true = le-leb _ _ few in
    let read : key_at 9 blob ≡ Ok (k, rest) = ap (key_at 9) front ∙ (keys 9).again k rest (fits, omega (arith, deep, all, same, few)) in
    rw (short, read) refl

-- ---- the key of a blob

-- the two faults that there are
abbrev pub IsFault : Error → Type 0
IsFault e = (e ≡ SshKey) ⊎ (e ≡ errors.NoMemory)

fails_either : (e : Error) (r : Front) (look : Front → Option Key) → look (Err SshKey) ≡ None → IsFault e → Fails e r → Fails e (key_or_fault (look r))
fails_either e r look none (inl is) h = subst (λ (d : Error). Fails d (key_or_fault (look r))) (sym is) (ap (λ (x : Front). key_or_fault (look x)) (subst (λ (d : Error). Fails d r) is h) ∙ ap key_or_fault none)
fails_either e r look none (inr is) h = subst (λ (d : Error). Fails d (key_or_fault (look r))) (sym is) tt

pub fails_key : (e : Error) (blob : List ℕ) → IsFault e → Fails e (front_at blob) → Fails e (key_or_fault (blob_key blob))
unfolding blob_key
fails_key e blob is h = fails_either e (front_at blob) front_of refl is h

pub fails_whole : (e : Error) (blob : List ℕ) → IsFault e → Fails e (front_at blob) → Fails e (key_or_fault (whole_blob_key blob))
unfolding whole_blob_key
fails_whole e blob is h = fails_either e (front_at blob) whole_of refl is h

-- a key that something follows is not the whole
pub more_follows : (blob : List ℕ) (k : Key) (rest : List ℕ) → front_at blob ≡ Ok (k, rest) → 0 < length rest → whole_blob_key blob ≡ None
unfolding whole_blob_key
more_follows blob k [] e h = absurd (omega arith)
more_follows blob k (b ∷ rest) e h = ap whole_of e

some_front : (r : Front) (k : Key) → front_of r ≡ Some k → (rest : List ℕ) × (r ≡ Ok (k, rest))
some_front (Ok x) k e = let is : x.0 ≡ k = cc in (x.1, ap (λ (y : Key). Ok (y, x.1)) is)
some_front (Err d) k e = absurd cc

some_whole : (r : Front) (k : Key) → whole_of r ≡ Some k → r ≡ Ok (k, [])
some_whole (Ok (y, [])) k e = let is : y ≡ k = cc in ap (λ (z : Key). Ok (z, [])) is
some_whole (Ok (y, (b ∷ rest))) k e = absurd cc
some_whole (Err d) k e = absurd cc

pub is_front : (blob : List ℕ) → IsBytes blob → (k : Key) → (blob_key blob ≡ Some k) ↔ IsReadable blob k
unfolding blob_key
is_front blob bytes k = (
  (λ e.
      let r = some_front (front_at blob) k e in
      let h = front_there blob k r.0 bytes r.1 in
      record { nesting = h.0; fits = h.1; rest = r.0; front = h.2 }),
  (λ readable. ap front_of (front_back blob k readable.rest readable.nesting readable.fits readable.front)),
)

pub is_whole : (blob : List ℕ) → IsBytes blob → (k : Key) → (whole_blob_key blob ≡ Some k) ↔ IsBlobOf k blob
unfolding whole_blob_key
is_whole blob bytes k = (
  (λ e. let h = front_there blob k [] bytes (some_whole (front_at blob) k e) in record { nesting = h.0; fits = h.1; text = h.2 ∙ append-nil (key_text k) }),
  (λ is. ap whole_of (front_back blob k [] is.nesting is.fits (is.text ∙ sym (append-nil (key_text k))))),
)

-- what was written is read again
pub written_is_read : (k : Key) (rest : List ℕ) → Fits k → markers (key_text k ++ rest) ≤ 8 → blob_key (key_text k ++ rest) ≡ Some k
unfolding blob_key
written_is_read k rest fits few = ap front_of (front_back (key_text k ++ rest) k rest few fits refl)

-- the key at the front is found
pub front_found : (blob : List ℕ) (k : Key) → IsReadable blob k → blob_key blob ≡ Some k
unfolding blob_key
front_found blob k stands = ap front_of (front_back blob k stands.rest stands.nesting stands.fits stands.front)
