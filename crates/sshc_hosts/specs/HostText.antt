-- The text by which a known hosts file names a host at a port (OpenSSH's sshd(8), "SSH_KNOWN_HOSTS FILE FORMAT").
use Rattle.std.specs.Prelude.{ℕ, List, ◌∷◌, ◌++◌, ◌==◌, if◌then◌else◌}
use Rattle.std.specs.Fmt.{decimal}

-- the host alone at port 22, and otherwise `[host]:port`
unfoldable pub host_text : List ℕ → ℕ → List ℕ
host_text host port = if port == 22 then host else 91 ∷ host ++ 93 ∷ 58 ∷ decimal port
