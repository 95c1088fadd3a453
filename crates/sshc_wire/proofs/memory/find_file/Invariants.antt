use Rattle.std.proofs.Common.{◌≡◌, drop}
use Rattle.sshc_wire.specs.Contents.{bytes_of}
use Rattle.sshc_wire.proofs.memory.find_file.Given as goal

abbrev pub invariant-loop-name : goal.invariant-loop-name
invariant-loop-name l = bytes_of l.files l.path ≡ bytes_of (drop l.name-index l.files) l.path
