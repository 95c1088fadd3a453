-- The names of algorithms, of curves and of certificates (RFC 4253, section 6.6; RFC 5656, sections 3.1 and 10.1; RFC 8709;
-- OpenSSH's PROTOCOL.certkeys and PROTOCOL.u2f), and the grammar of names that have a domain (RFC 4251, section 6).
-- A name is defined by the text that is written for it; the code searches a table and splits a name at its sign.
use Rattle.std.specs.Prelude.{◌≡◌, ℕ, ◌+◌, ◌-◌, ◌≤◌, Bool, true, false, ◌&&◌, not, nat_eq, nat_le, nat_lt, ◌==◌, List, [], ◌∷◌, ◌++◌, length, take, drop, codes, find, Option, Some, None, bytes_eq, if◌then◌else◌}
use Rattle.std.specs.List.{list_all, ends_with, position_or_len, before_first, after_first}
use Rattle.std.specs.Option.{is_some}
use Rattle.sshc_key.specs.declared.algorithm.EcdsaCurve.{EcdsaCurve}
use Rattle.sshc_key.specs.declared.algorithm.EcdsaCurve.TheVariants.{NistP256, NistP384, NistP521}
use Rattle.sshc_key.specs.declared.kind.Known.{Known}
use Rattle.sshc_key.specs.declared.kind.Known.TheVariants.{Dsa, Ecdsa, Ed25519, Rsa, SkEcdsaSha2NistP256, SkEd25519}
use Rattle.sshc_key.specs.declared.kind.Kind.{Kind}
use Rattle.sshc_key.specs.declared.kind.Kind.TheVariants as kinds
use Rattle.sshc_key.specs.declared.kind.Tag.{Tag}
use Rattle.sshc_key.specs.declared.kind.Tag.TheVariants as tags

-- ---- curves

abbrev pub curve_name : EcdsaCurve → List ℕ
curve_name NistP256 = codes "nistp256"
curve_name NistP384 = codes "nistp384"
curve_name NistP521 = codes "nistp521"

-- the byte 4, and two coordinates
abbrev pub point_length : EcdsaCurve → ℕ
point_length NistP256 = 65
point_length NistP384 = 97
point_length NistP521 = 133

-- ---- the kinds of plain keys

abbrev pub known_name : Known → List ℕ
known_name Dsa = codes "ssh-dss"
known_name (Ecdsa NistP256) = codes "ecdsa-sha2-nistp256"
known_name (Ecdsa NistP384) = codes "ecdsa-sha2-nistp384"
known_name (Ecdsa NistP521) = codes "ecdsa-sha2-nistp521"
known_name Ed25519 = codes "ssh-ed25519"
known_name Rsa = codes "ssh-rsa"
known_name SkEcdsaSha2NistP256 = codes "sk-ecdsa-sha2-nistp256@openssh.com"
known_name SkEd25519 = codes "sk-ssh-ed25519@openssh.com"

-- the name before its domain, if it has one
abbrev pub known_stem : Known → List ℕ
known_stem Dsa = codes "ssh-dss"
known_stem (Ecdsa NistP256) = codes "ecdsa-sha2-nistp256"
known_stem (Ecdsa NistP384) = codes "ecdsa-sha2-nistp384"
known_stem (Ecdsa NistP521) = codes "ecdsa-sha2-nistp521"
known_stem Ed25519 = codes "ssh-ed25519"
known_stem Rsa = codes "ssh-rsa"
known_stem SkEcdsaSha2NistP256 = codes "sk-ecdsa-sha2-nistp256"
known_stem SkEd25519 = codes "sk-ssh-ed25519"

-- of a certificate
abbrev pub known_certificate_name : Known → List ℕ
known_certificate_name k = known_stem k ++ codes "-cert-v01@openssh.com"

abbrev pub all_known : List Known
all_known = Dsa ∷ Ecdsa NistP256 ∷ Ecdsa NistP384 ∷ Ecdsa NistP521 ∷ Ed25519 ∷ Rsa ∷ SkEcdsaSha2NistP256 ∷ SkEd25519 ∷ []

-- the kind that has this name
unfoldable pub known_named : List ℕ → Option Known
known_named name = find (λ k. bytes_eq (known_name k) name) all_known

-- the kind whose name begins so, before its domain
unfoldable pub known_stemmed : List ℕ → Option Known
known_stemmed stem = find (λ k. bytes_eq (known_stem k) stem) all_known

-- the kind whose certificates have this name
unfoldable pub known_certified : List ℕ → Option Known
known_certified name = find (λ k. bytes_eq (known_certificate_name k) name) all_known

-- ---- names with a domain

-- the texts before and after a text's first `@`
pub record Parted : Type 0 where
  pub front : List ℕ
  pub domain : List ℕ

abbrev pub is_sign : ℕ → Bool
is_sign b = b == 64

unfoldable pub parted : List ℕ → Option Parted
parted s = if nat_lt (position_or_len is_sign s) (length s) then Some (record { front = before_first is_sign s; domain = after_first is_sign s }) else None

abbrev pub at_domain : Parted → List ℕ
at_domain p = p.front ++ (64 ∷ p.domain)

abbrev pub mark : List ℕ
mark = codes "-cert-v01"

-- printable ASCII, and neither a space nor a comma nor `@`
unfoldable pub is_name_byte : ℕ → Bool
is_name_byte b = nat_le 33 b && nat_le b 126 && not (b == 44) && not (b == 64)

-- a name of the table, or one made of a name of the table and OpenSSH's domain
unfoldable pub is_taken : Parted → Bool
is_taken p = bytes_eq p.domain (codes "openssh.com") && is_some (known_stemmed p.front)

-- one side of a name
unfoldable pub is_side : List ℕ → Bool
is_side bytes = nat_lt 0 (length bytes) && list_all is_name_byte bytes

unfoldable pub is_marked : List ℕ → Bool
is_marked front = ends_with nat_eq front mark

-- one `@` between two sides, at most 64 bytes, not taken, and no certificate's name
unfoldable pub is_opaque : Parted → Bool
is_opaque p = is_side p.front && is_side p.domain && nat_le (length p.front + 1 + length p.domain) 64 && not (is_taken p) && not (is_marked p.front)

abbrev pub opaque_parts : Option Parted → Bool
opaque_parts None = false
opaque_parts (Some p) = is_opaque p

abbrev pub is_opaque_name : List ℕ → Bool
is_opaque_name name = opaque_parts (parted name)

-- ---- the names of certificates

-- the mark is right before the `@`
abbrev pub with_mark : Parted → Parted
with_mark p = record { front = p.front ++ mark; domain = p.domain }

abbrev pub marked_parts : List ℕ → Option Parted → List ℕ
marked_parts name None = name ++ mark
marked_parts name (Some p) = at_domain (with_mark p)

abbrev pub marked_name : List ℕ → List ℕ
marked_name name = marked_parts name (parted name)

abbrev pub kind_name : Kind → List ℕ
kind_name (kinds.Known k) = known_name k
kind_name (kinds.Opaque name) = name

abbrev pub certificate_name : Kind → List ℕ
certificate_name (kinds.Known k) = known_certificate_name k
certificate_name (kinds.Opaque name) = marked_name name

-- ---- what a blob's name says

abbrev pub tag_name : Tag → List ℕ
tag_name (tags.Plain kind) = kind_name kind
tag_name (tags.Certified kind) = certificate_name kind

-- which names there are
abbrev pub IsKind : Kind → Type 0
IsKind (kinds.Known k) = Unit {0}
IsKind (kinds.Opaque name) = is_opaque_name name ≡ true

abbrev pub IsTag : Tag → Type 0
IsTag (tags.Plain kind) = IsKind kind
IsTag (tags.Certified kind) = IsKind kind × (length (certificate_name kind) ≤ 64)

-- ---- a name read

-- the text before the mark at its end
unfoldable pub unmarked : List ℕ → Option (List ℕ)
unmarked name = if bytes_eq (drop (length name - 9) name) mark then Some (take (length name - 9) name) else None

abbrev pub certified_tag : List ℕ → Parted → Option (List ℕ) → Option Tag
certified_tag name p None = None
certified_tag name p (Some own) =
    if is_opaque (record { front = own; domain = p.domain }) && nat_le (length name) 64 then Some (tags.Certified (kinds.Opaque (at_domain (record { front = own; domain = p.domain }))))
    else None

abbrev pub opaque_tag : List ℕ → Option Parted → Option Tag
opaque_tag name None = None
opaque_tag name (Some p) = if is_opaque p then Some (tags.Plain (kinds.Opaque name)) else certified_tag name p (unmarked p.front)

abbrev pub certified_or : Option Known → List ℕ → Option Tag
certified_or (Some k) name = Some (tags.Certified (kinds.Known k))
certified_or None name = opaque_tag name (parted name)

abbrev pub plain_or : Option Known → List ℕ → Option Tag
plain_or (Some k) name = Some (tags.Plain (kinds.Known k))
plain_or None name = certified_or (known_certified name) name

-- what the name says, if it is in the grammar
unfoldable pub tag_named : List ℕ → Option Tag
tag_named name = plain_or (known_named name) name
