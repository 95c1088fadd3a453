-- What is read as a login, and as a request to sign, is spelled as the standard has it.
use Rattle.std.proofs.Common.{◌≡◌, ℕ, Bool, true, false, List, [], ◌∷◌, ◌++◌, Option, Some, None, Result, Ok, Err, refl, ap, sym, subst, ◌∙◌}
use Rattle.std.specs.Prelude.{codes, bytes_eq, option_map, ◌==◌, if◌then◌else◌}
use Rattle.std.specs.Int.{w32}
use Rattle.std.proofs.lemmas.Bool.{and_parts, eqb-true}
use Rattle.std.proofs.lemmas.List.{append-nil}
use Rattle.sshc_wire.specs.declared.error.WireError.{WireError}
use Rattle.sshc_wire.specs.MessageNumbers.{USERAUTH_REQUEST}
use Rattle.sshc_wire.specs.FormatLaws.{behind_are_bytes, bind_ok, ok_is}
use Rattle.sshc_wire.specs.WholeLaws.{front_are_bytes}
use Rattle.sshc_wire.specs.LookupLaws.{same_bytes}
use Rattle.sshc_wire.specs.PartsLaws.{a_byte, number32, strings}
use Rattle.sshc_wire.specs.Reads.{byte_at, number_at, string_at, ◌>>=◌}
use Rattle.sshc_wire.specs.Wire.{IsBytes, string_text, u32_text}
use Rattle.sshc_proxy_session.specs.Userauth.{Fields, Signing, Userauth, end_of, fields_at, hostbound_text, is_login, login_by, login_with, only_signing, only_string, plain_end, publickey_text, signing_at, signing_of, signing_text, userauth_of}

-- ---- one part after another

string_step : {B : Type 0} (bytes : List ℕ) (f : List ℕ × List ℕ → Result B WireError) (y : B) → IsBytes bytes → (string_at bytes >>= f) ≡ Ok y
    → (text : List ℕ) × (rest : List ℕ) × (bytes ≡ string_text text ++ rest) × IsBytes rest × (f (text, rest) ≡ Ok y)
string_step bytes f y fits e =
    let b = bind_ok (string_at bytes) f y e in
    let is = (strings.takes bytes b.0.0 b.0.1 fits b.1).0 in
    (b.0.0, b.0.1, is, behind_are_bytes (string_text b.0.0) b.0.1 (subst IsBytes is fits), b.2)

byte_step : {B : Type 0} (bytes : List ℕ) (f : ℕ × List ℕ → Result B WireError) (y : B) → IsBytes bytes → (byte_at bytes >>= f) ≡ Ok y
    → (b : ℕ) × (rest : List ℕ) × (bytes ≡ b ∷ rest) × IsBytes rest × (f (b, rest) ≡ Ok y)
byte_step bytes f y fits e =
    let b = bind_ok (byte_at bytes) f y e in
    let is = (a_byte.takes bytes b.0.0 b.0.1 fits b.1).0 in
    (b.0.0, b.0.1, is, behind_are_bytes (b.0.0 ∷ []) b.0.1 (subst IsBytes is fits), b.2)

number_step : {B : Type 0} (bytes : List ℕ) (f : ℕ × List ℕ → Result B WireError) (y : B) → IsBytes bytes → (number_at w32 bytes >>= f) ≡ Ok y
    → (n : ℕ) × (rest : List ℕ) × (bytes ≡ u32_text n ++ rest) × (f (n, rest) ≡ Ok y)
number_step bytes f y fits e =
    let b = bind_ok (number_at w32 bytes) f y e in
    (b.0.0, b.0.1, (number32.takes bytes b.0.0 b.0.1 fits b.1).0, b.2)

-- ---- a login

abbrev fields_text : Fields → List ℕ → List ℕ
fields_text f rest =
    string_text f.session_id ++ (f.number ∷ (string_text f.user ++ (string_text f.service ++ (string_text f.method ++ (f.flag ∷ (string_text f.algorithm ++ (string_text f.key ++ rest)))))))

-- what is read after each field
abbrev Rest : Type 0
Rest = Result (Fields × List ℕ) WireError

abbrev after_key : List ℕ → ℕ → List ℕ → List ℕ → List ℕ → ℕ → List ℕ → List ℕ × List ℕ → Rest
after_key session_id number user service method flag algorithm key =
    Ok (record { session_id = session_id; number = number; user = user; service = service; method = method; flag = flag; algorithm = algorithm; key = key.0 }, key.1)

abbrev after_algorithm : List ℕ → ℕ → List ℕ → List ℕ → List ℕ → ℕ → List ℕ × List ℕ → Rest
after_algorithm session_id number user service method flag algorithm = string_at algorithm.1 >>= after_key session_id number user service method flag algorithm.0

abbrev after_flag : List ℕ → ℕ → List ℕ → List ℕ → List ℕ → ℕ × List ℕ → Rest
after_flag session_id number user service method flag = string_at flag.1 >>= after_algorithm session_id number user service method flag.0

abbrev after_method : List ℕ → ℕ → List ℕ → List ℕ → List ℕ × List ℕ → Rest
after_method session_id number user service method = byte_at method.1 >>= after_flag session_id number user service method.0

abbrev after_service : List ℕ → ℕ → List ℕ → List ℕ × List ℕ → Rest
after_service session_id number user service = string_at service.1 >>= after_method session_id number user service.0

abbrev after_user : List ℕ → ℕ → List ℕ × List ℕ → Rest
after_user session_id number user = string_at user.1 >>= after_service session_id number user.0

abbrev after_number : List ℕ → ℕ × List ℕ → Rest
after_number session_id number = string_at number.1 >>= after_user session_id number.0

abbrev after_session_id : List ℕ × List ℕ → Rest
after_session_id session_id = byte_at session_id.1 >>= after_number session_id.0

fields_front : (bytes : List ℕ) (f : Fields) (rest : List ℕ) → IsBytes bytes → fields_at bytes ≡ Ok (f, rest) → (bytes ≡ fields_text f rest) × IsBytes rest
unfolding fields_at
fields_front bytes f rest fits e =
    let a = string_step bytes after_session_id (f, rest) fits e in
    let b = byte_step a.1 (after_number a.0) (f, rest) a.3 a.4 in
    let c = string_step b.1 (after_user a.0 b.0) (f, rest) b.3 b.4 in
    let d = string_step c.1 (after_service a.0 b.0 c.0) (f, rest) c.3 c.4 in
    let g = string_step d.1 (after_method a.0 b.0 c.0 d.0) (f, rest) d.3 d.4 in
    let h = byte_step g.1 (after_flag a.0 b.0 c.0 d.0 g.0) (f, rest) g.3 g.4 in
    let i = string_step h.1 (after_algorithm a.0 b.0 c.0 d.0 g.0 h.0) (f, rest) h.3 h.4 in
    let k = string_step i.1 (after_key a.0 b.0 c.0 d.0 g.0 h.0 i.0) (f, rest) i.3 i.4 in
    let last : h.1 ≡ string_text i.0 ++ (string_text k.0 ++ k.1) = i.2 ∙ ap (λ (t : List ℕ). string_text i.0 ++ t) k.2 in
    let middle : c.1 ≡ string_text d.0 ++ (string_text g.0 ++ (h.0 ∷ (string_text i.0 ++ (string_text k.0 ++ k.1)))) =
    d.2 ∙ ap (λ (t : List ℕ). string_text d.0 ++ t) (g.2 ∙ ap (λ (t : List ℕ). string_text g.0 ++ t) (h.2 ∙ ap (λ (t : List ℕ). h.0 ∷ t) last)) in
    let all : bytes ≡ string_text a.0 ++ (b.0 ∷ (string_text c.0 ++ (string_text d.0 ++ (string_text g.0 ++ (h.0 ∷ (string_text i.0 ++ (string_text k.0 ++ k.1))))))) =
    a.2 ∙ ap (λ (t : List ℕ). string_text a.0 ++ t) (b.2 ∙ ap (λ (t : List ℕ). b.0 ∷ t) (c.2 ∙ ap (λ (t : List ℕ). string_text c.0 ++ t) middle)) in
    subst (λ (p : Fields × List ℕ). (bytes ≡ fields_text p.0 p.1) × IsBytes p.1) (ok_is {E = WireError} (record { session_id = a.0; number = b.0; user = c.0; service = d.0; method = g.0; flag = h.0; algorithm = i.0; key = k.0 }, k.1) (f, rest) k.4) (all, k.3)

-- what follows the fields
abbrev IsEnd : Option (List ℕ) → List ℕ → List ℕ → Type 0
IsEnd None method rest = (method ≡ codes "publickey") × (rest ≡ [])
IsEnd (Some host_key) method rest = (method ≡ codes "publickey-hostbound-v00@openssh.com") × (rest ≡ string_text host_key)

plain_is : (method rest : List ℕ) (host : Option (List ℕ)) → method ≡ codes "publickey" → plain_end rest ≡ Some host → IsEnd host method rest
plain_is method [] None is e = (is, refl)
plain_is method [] (Some h) is e = absurd cc
plain_is method (b ∷ rest) host is e = absurd cc

string_is : (rest text : List ℕ) (r : Result (List ℕ × List ℕ) WireError) → IsBytes rest → string_at rest ≡ r → only_string r ≡ Some text → rest ≡ string_text text
string_is rest text (Err e) fits reads is = absurd cc
string_is rest text (Ok (found, [])) fits reads is =
    let same : found ≡ text = cc in
    (strings.takes rest found [] fits reads).0 ∙ append-nil (string_text found) ∙ ap string_text same
string_is rest text (Ok (found, (b ∷ more))) fits reads is = absurd cc

bound_is : (method rest : List ℕ) (host : Option (List ℕ)) (found : Option (List ℕ)) → IsBytes rest → method ≡ codes "publickey-hostbound-v00@openssh.com" → only_string (string_at rest) ≡ found
    → option_map (λ h. Some h) found ≡ Some host → IsEnd host method rest
bound_is method rest host None fits is reads e = absurd cc
bound_is method rest None (Some text) fits is reads e = absurd cc
bound_is method rest (Some h) (Some text) fits is reads e = let same : text ≡ h = cc in (is, string_is rest text (string_at rest) fits refl reads ∙ ap string_text same)

end_is : (method rest : List ℕ) (host : Option (List ℕ)) → IsBytes rest → end_of method rest ≡ Some host → IsEnd host method rest
unfolding end_of
end_is method rest host fits e = by (bytes_eq method (codes "publickey")) (bytes_eq method (codes "publickey-hostbound-v00@openssh.com")) refl refl e
  where
    by : (b c : Bool) → bytes_eq method (codes "publickey") ≡ b → bytes_eq method (codes "publickey-hostbound-v00@openssh.com") ≡ c
        → (if b then plain_end rest else (if c then option_map (λ h. Some h) (only_string (string_at rest)) else None)) ≡ Some host → IsEnd host method rest
    by true c plain bound is = plain_is method rest host (same_bytes method (codes "publickey") plain) is
    by false true plain bound is = bound_is method rest host (only_string (string_at rest)) fits (same_bytes method (codes "publickey-hostbound-v00@openssh.com") bound) refl is
    by false false plain bound is = absurd cc

-- the login is spelled so
abbrev pub IsSpelled : List ℕ → List ℕ → List ℕ → List ℕ → Option (List ℕ) → List ℕ → Type 0
IsSpelled session_id user algorithm key None bytes = bytes ≡ publickey_text session_id user algorithm key
IsSpelled session_id user algorithm key (Some host_key) bytes = bytes ≡ hostbound_text session_id user algorithm key host_key

ended : (f : Fields) (rest bytes : List ℕ) (host : Option (List ℕ)) → bytes ≡ fields_text f rest → f.number ≡ USERAUTH_REQUEST → f.flag ≡ 1 → f.service ≡ codes "ssh-connection" → IsEnd host f.method rest
    → IsSpelled f.session_id f.user f.algorithm f.key host bytes
ended f rest bytes None is number flag service (method, none) =
    is ∙ ap (λ (t : List ℕ). fields_text f t) none ∙ rw (number, flag, service, method, append-nil (string_text f.key)) refl
ended f rest bytes (Some h) is number flag service (method, one) =
    is ∙ ap (λ (t : List ℕ). fields_text f t) one ∙ rw (number, flag, service, method) refl

by_end : (f : Fields) (rest bytes : List ℕ) (login : Userauth) (end : Option (Option (List ℕ))) → IsBytes rest → bytes ≡ fields_text f rest → is_login f ≡ true → end_of f.method rest ≡ end
    → login_with f end ≡ Some login → IsSpelled login.session_id login.user login.algorithm login.key login.host_key bytes
unfolding is_login
by_end f rest bytes login None fits is passes ends e = absurd cc
by_end f rest bytes login (Some host) fits is passes ends e =
    let first = and_parts (f.number == USERAUTH_REQUEST) _ passes in
    let second = and_parts (f.flag == 1) _ first.1 in
    let same : record { session_id = f.session_id; user = f.user; algorithm = f.algorithm; key = f.key; host_key = host } ≡ login = cc in
    subst (λ (l : Userauth). IsSpelled l.session_id l.user l.algorithm l.key l.host_key bytes) same
    (ended f rest bytes host is (eqb-true f.number USERAUTH_REQUEST first.0) (eqb-true f.flag 1 second.0) (same_bytes f.service (codes "ssh-connection") second.1) (end_is f.method rest host fits ends))

tested : {A : Type 0} (b : Bool) (o : Option A) (x : A) → (if b then o else None) ≡ Some x → (b ≡ true) × (o ≡ Some x)
tested true o x e = (refl, e)
tested false o x e = absurd cc

by_fields : (bytes : List ℕ) (login : Userauth) (read : Result (Fields × List ℕ) WireError) → IsBytes bytes → fields_at bytes ≡ read → login_by read ≡ Some login
    → IsSpelled login.session_id login.user login.algorithm login.key login.host_key bytes
by_fields bytes login (Err e) fits reads said = absurd cc
by_fields bytes login (Ok read) fits reads said =
    let front = fields_front bytes read.0 read.1 fits reads in
    let passes = tested (is_login read.0) (login_with read.0 (end_of read.0.method read.1)) login said in
    by_end read.0 read.1 bytes login (end_of read.0.method read.1) front.1 front.0 passes.0 refl passes.1

pub login_spelled : (bytes : List ℕ) (login : Userauth) → IsBytes bytes → userauth_of bytes ≡ Some login → IsSpelled login.session_id login.user login.algorithm login.key login.host_key bytes
unfolding userauth_of
login_spelled bytes login fits e = by_fields bytes login (fields_at bytes) fits refl e

-- ---- a request to sign

bytes_of_string : (text rest : List ℕ) → IsBytes (string_text text ++ rest) → IsBytes text
unfolding string_text
bytes_of_string text rest fits = behind_are_bytes (u32_text _) text (front_are_bytes (u32_text _ ++ text) rest fits)

signing_front : (body : List ℕ) (s : Signing) (rest : List ℕ) → IsBytes body → signing_at body ≡ Ok (s, rest) → (body ≡ string_text s.key ++ (string_text s.bytes ++ (u32_text s.flags ++ rest))) × IsBytes s.bytes
unfolding signing_at
signing_front body s rest fits e =
    let a = string_step body _ (s, rest) fits e in
    let b = string_step a.1 _ (s, rest) a.3 a.4 in
    let n = number_step b.1 _ (s, rest) b.3 b.4 in
    let all : body ≡ string_text a.0 ++ (string_text b.0 ++ (u32_text n.0 ++ n.1)) = a.2 ∙ ap (λ (t : List ℕ). string_text a.0 ++ t) (b.2 ∙ ap (λ (t : List ℕ). string_text b.0 ++ t) n.2) in
    subst (λ (p : Signing × List ℕ). (body ≡ string_text p.0.key ++ (string_text p.0.bytes ++ (u32_text p.0.flags ++ p.1))) × IsBytes p.0.bytes) (ok_is {E = WireError} _ _ n.3)
    (all, bytes_of_string b.0 b.1 (subst IsBytes b.2 a.3))

by_signing : (body : List ℕ) (s : Signing) (read : Result (Signing × List ℕ) WireError) → IsBytes body → signing_at body ≡ read → only_signing read ≡ Some s → (body ≡ signing_text s.key s.bytes s.flags) × IsBytes s.bytes
by_signing body s (Err e) fits reads is = absurd cc
by_signing body s (Ok (found, [])) fits reads is =
    let same : found ≡ s = cc in
    let front = signing_front body found [] fits reads in
    subst (λ (x : Signing). (body ≡ signing_text x.key x.bytes x.flags) × IsBytes x.bytes) same
    (front.0 ∙ ap (λ (t : List ℕ). string_text found.key ++ (string_text found.bytes ++ t)) (append-nil (u32_text found.flags)), front.1)
by_signing body s (Ok (found, (b ∷ rest))) fits reads is = absurd cc

pub signing_spelled : (body : List ℕ) (s : Signing) → IsBytes body → signing_of body ≡ Some s → (body ≡ signing_text s.key s.bytes s.flags) × IsBytes s.bytes
unfolding signing_of
signing_spelled body s fits e = by_signing body s (signing_at body) fits refl e
