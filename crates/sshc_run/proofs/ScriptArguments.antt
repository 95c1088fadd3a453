-- The arguments of a script are those of one host, one port and one path.
use Rattle.std.proofs.Common.{◌≡◌, ℕ, List, ap, sym, ◌∙◌}
use Rattle.std.specs.Str.Parse.{digits_value}
use Rattle.sshc_run_script.specs.Words.{IsScriptWords}

pub one_script : (words : List (List ℕ)) (host host' : List ℕ) (port port' : ℕ) (path path' : List ℕ) → IsScriptWords words host port path → IsScriptWords words host' port' path' → (host' ≡ host) × (port' ≡ port) × (path' ≡ path)
one_script words host host' port port' path path' (word, is, (short, numeral, value, below)) (word', is', (short', numeral', value', below')) =
    let same : word' ≡ word = cc in
    let same_host : host' ≡ host = cc in
    let same_path : path' ≡ path = cc in
    (same_host, sym value' ∙ ap (digits_value 10) same ∙ value, same_path)
