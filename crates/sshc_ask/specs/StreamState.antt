-- What contracts see of a stream to an agent, and of the client that owns it: plain data.
use Rattle.std.specs.Prelude.{◌≡◌, ℕ, List, Option}
use Rattle.sshc_wire.specs.Faults.{Rose}

pub record StreamState : Type 0 where
  -- the bytes that the sink holds and those that remain in the source, if contracts see them
  pub held : Option (List ℕ)
  pub left : Option (List ℕ)
  -- how many writes and reads were made, and how many of them failed
  pub writes : ℕ
  pub reads : ℕ
  pub write_faults : ℕ
  pub read_faults : ℕ
  -- how often a signature for a login was refused
  pub refusals : ℕ

-- no write and no read failed
pub record NoFaults (before after : StreamState) : Type 0 where
  pub write_faults : after.write_faults ≡ before.write_faults
  pub read_faults : after.read_faults ≡ before.read_faults

-- a write failed, and no read
pub record WriteFails (before after : StreamState) : Type 0 where
  pub write_faults : Rose before.write_faults after.write_faults
  pub read_faults : after.read_faults ≡ before.read_faults

-- a read failed, and no write
pub record ReadFails (before after : StreamState) : Type 0 where
  pub write_faults : after.write_faults ≡ before.write_faults
  pub read_faults : Rose before.read_faults after.read_faults
