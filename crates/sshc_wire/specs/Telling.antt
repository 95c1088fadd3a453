-- The record that a text tells: the record that was written, where the text was. Any other text tells some record.
use Rattle.std.specs.Prelude.{◌≡◌, ℕ, List, [], ◌∷◌, map, Result, Ok, Err, nat_lt, ◌==◌, if◌then◌else◌}
use Rattle.sshc_wire.specs.Reads.{string_at}
use Rattle.sshc_wire.specs.Records.{record_text}
use Rattle.sshc_wire.specs.RecordReads.{answer_at, asked_at, happened_at, opened_at, resolved_at, strings_at}
use Rattle.sshc_wire.specs.declared.error.WireError.{WireError}
use Rattle.sshc_wire.specs.declared.record.Record.{Record}
use Rattle.sshc_wire.specs.declared.record.Record.TheVariants.{Payload, BeginExchange, Opened, Resolved, Auth, KexDone, AuthBanner, Channel, ServerOpened, HostKeysAnnounced, Agent}

-- the record that is made of what was read, if anything was
abbrev pub made_of : {A : Type 0} → (A → Record) → Result (A × List ℕ) WireError → Record
made_of make (Ok read) = make read.0
made_of make (Err fault) = BeginExchange

-- the record of this number whose fields come first
abbrev pub record_by : ℕ → List ℕ → Record
record_by number fields =
    if number == 0x01 then Payload fields
    else (if number == 0x02 then BeginExchange
    else (if number == 0x03 then Opened
    else (if number == 0x04 then made_of (λ r. Resolved r.0 r.1) (resolved_at fields)
    else (if nat_lt number 0x0c then made_of (λ a. Auth a.0 a.1) (asked_at number fields)
    else (if number == 0x20 then made_of (λ kex. KexDone kex) (string_at fields)
    else (if number == 0x21 then made_of (λ banner. AuthBanner banner) (string_at fields)
    else (if number == 0x28 then made_of (λ o. ServerOpened o.0 o.1) (opened_at fields)
    else (if number == 0x2f then made_of (λ keys. HostKeysAnnounced keys) (strings_at fields)
    else (if nat_lt number 0x2f then made_of (λ h. Channel h.0 h.1) (happened_at number fields)
    else made_of (λ a. Agent a.0 a.1) (answer_at number fields))))))))))

unfoldable pub record_of : List ℕ → Record
record_of [] = BeginExchange
record_of (number ∷ fields) = record_by number fields

-- the records that these texts tell
abbrev pub records_of : List (List ℕ) → List Record
records_of texts = map record_of texts

-- each text is that of the record that it tells
abbrev pub AreTold : List (List ℕ) → Type 0
AreTold [] = Unit {0}
AreTold (t ∷ texts) = (record_text (record_of t) ≡ t) × AreTold texts

-- the record's text tells it
abbrev pub IsTold : Record → Type 0
IsTold output = record_of (record_text output) ≡ output

-- each record's text tells it
abbrev pub AllTold : List Record → Type 0
AllTold [] = Unit {0}
AllTold (output ∷ records) = IsTold output × AllTold records
