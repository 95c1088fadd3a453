-- The keys that an agent lists (draft-miller-ssh-agent, section 3.5), by their bytes.
-- A listing is read as `sshc_ask` reads it, and is a function of the whole answer; the code moves a cursor.
use Rattle.std.specs.Prelude.{ℕ, List, ◌∷◌, ◌++◌, map, Result, Ok}
use Rattle.sshc_wire.specs.Counted.{times_at}
use Rattle.sshc_wire.specs.Reads.{Reader, ◌>>=◌}
use Rattle.sshc_wire.specs.Wire.{counted_text, string_text}
use Rattle.sshc_key.specs.declared.error.Error.{Error}
use Rattle.sshc_key.specs.AgentNumbers.{IDENTITIES_ANSWER}
use Rattle.sshc_key.specs.KeyReading.{octets_at, u32_at, utf8_at}
use Rattle.sshc_key.specs.Nesting.{blob_key, key_or_fault}
use Rattle.sshc_proxy.specs.declared.listing.Listed.{Listed as Lent}

-- a blob and its comment
abbrev pub Listed : Type 0
Listed = List ℕ × List ℕ

-- a blob, which begins with a key, and its comment, which is UTF-8
unfoldable pub listed_at : Reader Error Listed
listed_at bytes = octets_at bytes >>= λ blob. utf8_at blob.1 >>= λ comment. key_or_fault (blob_key blob.0) >>= λ key. Ok ((blob.0, comment.0), comment.1)

-- a number, and that many keys; bytes after them are ignored
unfoldable pub listed_keys : List ℕ → Result (List Listed) Error
listed_keys body = u32_at body >>= λ count. times_at count.0 listed_at count.1 >>= λ found. Ok found.0

-- a blob and its comment in a listing
abbrev pub listed_text : Listed → List ℕ
listed_text key = string_text key.0 ++ string_text key.1

-- the answer that lists the keys
abbrev pub listing : List Listed → List ℕ
listing keys = IDENTITIES_ANSWER ∷ counted_text listed_text keys

-- ---- the keys that values of the code's type represent

abbrev pub listed_seen : Lent → Listed
listed_seen lent = (lent.blob.now, lent.comment.now)

abbrev pub keys_seen : List Lent → List Listed
keys_seen keys = map listed_seen keys
