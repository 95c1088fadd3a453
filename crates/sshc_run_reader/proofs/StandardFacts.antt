-- Standard facts: single parts of events are read from their bytes, and the names of an exchange in their order, computed.
use Rattle.std.proofs.Common.{◌≡◌, ℕ, ◌<◌, ◌^◌, true, List, [], ◌∷◌, ◌++◌, length, Ok, ltb, lit<, refl, ap}
use Rattle.std.specs.Prelude.{codes}
use Rattle.std.specs.List.{list_all}
use Rattle.std.specs.Str.{is_utf8}
use Rattle.std.proofs.lemmas.Bool.{ltb-true}
use Rattle.std.proofs.lemmas.List.Sums.{AllPass-from_list_all}
use Rattle.std.proofs.lemmas.Str.{IsUtf8-from_ascii, is_utf8-from_IsUtf8}
use Rattle.std.proofs.lemmas.Str.Ascii.{IsAscii-from_all}
use Rattle.sshc_wire.specs.Format.{faults_as}
use Rattle.sshc_wire.specs.PartsLaws.{texts}
use Rattle.sshc_wire.specs.Reads.{byte_at, boolean_at}
use Rattle.sshc_wire.specs.Wire.{string_text}
use Rattle.sshc_run_reader.specs.EventParts.{as_bad, flag_at, words_at}
use Rattle.sshc_run_reader.specs.EventReading.{names_at}

-- ---- single parts

utf8_is : (text : List ℕ) → list_all (λ b. ltb b 128) text ≡ true → is_utf8 text ≡ true
utf8_is text low =
    is_utf8-from_IsUtf8 text (IsUtf8-from_ascii text (IsAscii-from_all text (λ k d within. ltb-true _ _ (AllPass-from_list_all (λ b. ltb b 128) text low k d within))))

-- a text of ASCII is read
words_is : (text rest : List ℕ) → length text < 2 ^ 32 → list_all (λ b. ltb b 128) text ≡ true →
    words_at (string_text text ++ rest) ≡ Ok (text, rest)
unfolding words_at
words_is text rest short low = ap (faults_as as_bad) (texts.again text rest (short, utf8_is text low))

set_is : (rest : List ℕ) → flag_at (1 ∷ rest) ≡ Ok (true, rest)
unfolding flag_at boolean_at byte_at
set_is rest = refl

-- ---- the names of an exchange

-- a name of one letter
abbrev letter : List ℕ → List ℕ → List ℕ
letter name rest = string_text name ++ rest

abbrev strict : List ℕ
strict = 1 ∷ []

-- The order of EXCHANGE_DONE (docs/FORMATS.md, "Events"): kex, key, cipher, client mac, server mac, strict. Each name is
-- another letter, so two fields that the code, the reading and the grammar all swap show here.
pub names_are_ordered :
    names_at (letter (codes "k") (letter (codes "h") (letter (codes "c") (letter (codes "m") (letter (codes "s") strict)))))
    ≡ Ok (record { kex = codes "k"; key = codes "h"; cipher = codes "c"; client_mac = codes "m"; server_mac = codes "s"; strict_kex = true }, [])
unfolding names_at
names_are_ordered =
    rw (
      words_is (codes "k") (letter (codes "h") (letter (codes "c") (letter (codes "m") (letter (codes "s") strict)))) (lit< tt) refl,
      words_is (codes "h") (letter (codes "c") (letter (codes "m") (letter (codes "s") strict))) (lit< tt) refl,
      words_is (codes "c") (letter (codes "m") (letter (codes "s") strict)) (lit< tt) refl,
      words_is (codes "m") (letter (codes "s") strict) (lit< tt) refl,
      words_is (codes "s") strict (lit< tt) refl,
      set_is [],
    ) refl
