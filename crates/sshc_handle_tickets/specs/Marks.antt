-- The marks of closed channels: which numbers are marked, and which have room to be marked. The code keeps a map.
use Rattle.std.specs.Prelude.{◌≡◌, ℕ, ◌+◌, ◌≤◌, Bool, true, false, List, length, Option, Some, None, is_some, unwrap_or}
use Rattle.std.specs.BTreeMap.{get}
use Rattle.std.specs.List.{list_any}
use Rattle.std.specs.Ordering.{nat_cmp}
use Rattle.sshc_wire.specs.declared.record.Record.{Record}
use Rattle.sshc_wire.specs.declared.record.Record.TheVariants.{Channel}
use Rattle.sshc_wire.specs.declared.channel_id.ChannelId.{ChannelId}
use Rattle.sshc_wire.specs.declared.channel_record.ChannelRecord.TheVariants.{Close}
use Rattle.sshc_handle_tickets.specs.declared.marks.Marks.{Marks}
use Rattle.sshc_handle_tickets.specs.Tickets.{is_channel, is_number}

abbrev pub is_marked : Marks → ℕ → Bool
is_marked marks number = unwrap_or (get nat_cmp marks.of number) false

abbrev pub has_room : Marks → ℕ → Bool
has_room marks number = is_some (get nat_cmp marks.of number)

-- the number of the channel that a record closes
abbrev pub closed_by : Record → Option ℕ
closed_by (Channel id Close) = Some id.0
closed_by output = None

-- whether the record is the close of a channel of this number
abbrev pub is_close : ℕ → Record → Bool
is_close number output = is_number number (closed_by output)

-- the numbers of the closed channels are marked
abbrev pub AreMarked : Marks → List ChannelId → Type 0
AreMarked marks closed = (number : ℕ) → is_marked marks number ≡ list_any (is_channel number) closed

-- how closed channels are kept beside the records that are held
pub record IsKept (held : List Record) (closed : List ChannelId) (capacity : ℕ) (marks : Marks) : Type 0 where
  -- there is room for each close that is held
  pub room : length held + length closed ≤ capacity
  pub marked : AreMarked marks closed
  -- and a mark of its number can be made
  pub closing : (number : ℕ) → list_any (is_close number) held ≡ true → has_room marks number ≡ true
