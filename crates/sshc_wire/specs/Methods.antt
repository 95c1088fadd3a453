-- Methods of authentication by their names (RFC 4252, section 5), and lists of them without doubles.
-- A table of names; the code searches it.
use Rattle.std.specs.Prelude.{◌≡◌, ℕ, Bool, false, List, [], ◌∷◌, ◌++◌, Option, find, bytes_eq, codes, if◌then◌else◌}
use Rattle.std.specs.List.{list_any}
use Rattle.sshc_wire.specs.declared.methods.MethodKind.{MethodKind}
use Rattle.sshc_wire.specs.declared.methods.MethodKind.TheVariants as methods

abbrev pub method_name : MethodKind → List ℕ
method_name methods.None = codes "none"
method_name methods.Password = codes "password"
method_name methods.PublicKey = codes "publickey"
method_name methods.HostBased = codes "hostbased"
method_name methods.KeyboardInteractive = codes "keyboard-interactive"
method_name methods.GssapiWithMic = codes "gssapi-with-mic"

abbrev pub all_methods : List MethodKind
all_methods = methods.None ∷ methods.Password ∷ methods.PublicKey ∷ methods.HostBased ∷ methods.KeyboardInteractive ∷ methods.GssapiWithMic ∷ []

-- the method of this name, if any
abbrev pub method_of : List ℕ → Option MethodKind
method_of name = find (λ m. bytes_eq (method_name m) name) all_methods

abbrev pub is_method : MethodKind → MethodKind → Bool
is_method a b = bytes_eq (method_name a) (method_name b)

-- whether the method is in the list
unfoldable pub has_method : List MethodKind → MethodKind → Bool
has_method ms m = list_any (λ held. is_method held m) ms

-- the list with the method at its end, unless it has it already
unfoldable pub with_method : List MethodKind → MethodKind → List MethodKind
with_method ms m = if has_method ms m then ms else ms ++ m ∷ []

-- no method is in the list twice
abbrev pub HasNoDoubles : List MethodKind → Type 0
HasNoDoubles [] = Unit {0}
HasNoDoubles (m ∷ ms) = (has_method ms m ≡ false) × HasNoDoubles ms
