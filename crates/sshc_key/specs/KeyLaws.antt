pub mod Names
pub mod Tags
pub mod Fields
pub mod Lists
pub mod Keys
pub mod Markers
pub mod Blobs
pub mod Base64
pub mod Words
pub mod Pairs
-- The bridge between reading keys and the key grammar: what is read is just what the grammar has, and what is written is read
-- again. These laws are said of lists of bytes; the calls' clauses say the same of what the calls return.
use Rattle.std.specs.Prelude.{◌≡◌, ◌↔◌, ◌≤◌, ℕ, List, ◌++◌, Some, Ok}
use Rattle.sshc_wire.specs.Wire.{IsBytes}
use Rattle.sshc_key.specs.KeyGrammar.{Key, Fits, key_text}
use Rattle.sshc_key.specs.KeyText.{IsKeyText, decoded_key}
use Rattle.sshc_key.specs.Nesting.{IsBlobOf, IsReadable, blob_key, markers, whole_blob_key}
use Rattle.sshc_key.specs.KeyLaws.Blobs as blobs
use Rattle.sshc_key.specs.KeyLaws.Base64 as base64

-- the key that is found at a blob's front is the key of the grammar whose text is there
pub front_key_is : (blob : List ℕ) → IsBytes blob → (k : Key) → (blob_key blob ≡ Some k) ↔ IsReadable blob k
front_key_is = blobs.is_front

-- the same where nothing follows it
pub whole_key_is : (blob : List ℕ) → IsBytes blob → (k : Key) → (whole_blob_key blob ≡ Some k) ↔ IsBlobOf k blob
whole_key_is = blobs.is_whole

-- a key of the grammar is read again, whatever follows its text
pub key_again : (k : Key) (rest : List ℕ) → Fits k → markers (key_text k ++ rest) ≤ 8 → blob_key (key_text k ++ rest) ≡ Some k
key_again = blobs.written_is_read

-- a key whose base64 the text is, is read from it
pub key_text_is_read : (text : List ℕ) (k : Key) → IsKeyText text k → decoded_key text ≡ Ok k
key_text_is_read = base64.key_text_read
