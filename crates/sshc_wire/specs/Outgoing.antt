-- What contracts see of an outbox: the records in order, and whether packets are dropped. Plain data; how the records are kept is the
-- code's.
use Rattle.std.proofs.Common.{◌≡◌, ℕ, Bool, true, false, List, [], ◌∷◌, ◌++◌, Option, Some, None}
use Rattle.std.specs.List.{flat_map}
use Rattle.sshc_wire.specs.Records.{record_text}
use Rattle.sshc_wire.specs.declared.record.Record.{Record}
use Rattle.sshc_wire.specs.declared.record.Record.TheVariants.{Payload}

pub record Outgoing : Type 0 where
  pub records : List Record
  pub muted : Bool

-- the texts of records, joined in order
abbrev pub texts : List Record → List ℕ
texts records = flat_map record_text records

-- the text of a record, if there is one
abbrev pub text_in : Option Record → List ℕ
text_in None = []
text_in (Some output) = record_text output

-- the packet of a record, if it is one
abbrev pub packet_in : Option Record → Option (List ℕ)
packet_in (Some (Payload packet)) = Some packet
packet_in output = None

-- the first record was taken, or there was no record
abbrev pub Takes : Option Record → List Record → List Record → Type 0
Takes None old new = (old ≡ []) × (new ≡ [])
Takes (Some output) old new = old ≡ output ∷ new

-- records to which some were added at the end
abbrev pub Grows : List Record → List Record → Type 0
Grows old new = (more : List Record) × (new ≡ old ++ more)

-- an optional value as a list
abbrev pub listed : {A : Type 0} → Option A → List A
listed None = []
listed (Some x) = x ∷ []

-- what is kept of a record: a muted outbox drops packets
abbrev pub kept : Bool → Record → List Record
kept false output = output ∷ []
kept true (Payload packet) = []
kept true output = output ∷ []

-- what is kept of records
abbrev pub shown : Bool → List Record → List Record
shown muted [] = []
shown muted (output ∷ records) = kept muted output ++ shown muted records
