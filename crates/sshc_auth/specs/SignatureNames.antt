-- The signature names that are kept of a server's list (RFC 8308, section 3.1; RFC 8332, section 3): the names of the
-- known algorithms of keys, RSA's with SHA-2, and names with a domain; no certificate's name (RFC 4251, section 6).
-- By the grammar of algorithms' names; the code tests parts of a name.
use Rattle.std.specs.Prelude.{ℕ, Bool, ◌||◌, List, [], ◌∷◌, ◌++◌, map, codes, bytes_eq}
use Rattle.std.specs.List.{list_any}
use Rattle.sshc_key.specs.AlgorithmNames.{all_known, known_name, is_opaque_name}

abbrev pub signature_names : List (List ℕ)
signature_names = map known_name all_known ++ codes "rsa-sha2-256" ∷ codes "rsa-sha2-512" ∷ []

unfoldable pub is_signature_name : List ℕ → Bool
is_signature_name name = list_any (λ known. bytes_eq known name) signature_names || is_opaque_name name
