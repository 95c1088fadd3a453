-- 81 and 82: replies to requests of ours (RFC 4254, sections 4 and 7.1), each by what was asked.
use Rattle.std.specs.Prelude.{ℕ, List, [], ◌∷◌, length, Option, Some, None, Ok, Err, ◌==◌, if◌then◌else◌}
use Rattle.std.specs.Int.{w32, from_be_bytes}
use Rattle.sshc_wire.specs.Whole.{WholeReader}
use Rattle.sshc_wire.specs.declared.error.WireError.{WireError}
use Rattle.sshc_wire.specs.declared.error.WireError.TheVariants.{Trailing}

-- no bytes
abbrev pub nothing_of : WholeReader WireError (Unit {0})
nothing_of [] = Ok tt
nothing_of (b ∷ bytes) = Err Trailing

-- the port on which the server listens: no bytes mean the port that was asked for, as 0, and four bytes are its number
abbrev pub forward_port : List ℕ → Option ℕ
forward_port bytes =
    if length bytes == 0 then Some 0
    else (if length bytes == 4 then Some (from_be_bytes w32 bytes) else None)
