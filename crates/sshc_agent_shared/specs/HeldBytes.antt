-- The bytes that are held in a buffer, which several may share.
use Rattle.std.specs.Prelude.{ℕ, List}
use Rattle.std.specs.Arc.{arc_value}
use Rattle.sshc_agent_shared.specs.declared.bytes.Held.{Held}
use Rattle.sshc_agent_shared.specs.declared.bytes.Held.TheVariants as held

abbrev pub bytes_of : Held → List ℕ
bytes_of (held.Shared bytes) = arc_value bytes
bytes_of (held.Own buffer) = buffer.value.items
