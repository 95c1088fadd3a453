-- HMAC with SHA-1 (RFC 2104, section 2), as OpenSSH uses it for hashed host names.
-- Each definition is a whole list; the code fills two blocks and hashes piece by piece.
use Rattle.std.specs.Prelude.{ℕ, ◌-◌, List, ◌++◌, length, map, replicate, bit_xor, nat_lt, if◌then◌else◌}
use Rattle.sha1.specs.Sha1.{sha1}

-- bytes of a block of SHA-1 (B of RFC 2104)
abbrev pub block_length : ℕ
block_length = 64

-- the key, or its digest where the key is longer than a block
abbrev pub short_key : List ℕ → List ℕ
short_key key = if nat_lt block_length (length key) then sha1 key else key

-- the key with zeros up to a block
abbrev pub block_key : List ℕ → List ℕ
block_key key = short_key key ++ replicate (block_length - length (short_key key)) 0

-- the exclusive or of each byte of a block with one byte
abbrev pub padded_by : ℕ → List ℕ → List ℕ
padded_by pad block = map (λ k. bit_xor k pad) block

-- H(K xor opad, H(K xor ipad, text))
unfoldable pub hmac_sha1 : List ℕ → List ℕ → List ℕ
hmac_sha1 key message = sha1 (padded_by 0x5c (block_key key) ++ sha1 (padded_by 0x36 (block_key key) ++ message))
