-- Records of a session: every record but an agent's (docs/FORMATS.md, kinds below 40).
use Rattle.std.proofs.Common.{◌≡◌, Bool, true, false, List, [], ◌∷◌}
use Rattle.sshc_wire.specs.declared.record.Record.{Record}
use Rattle.sshc_wire.specs.declared.record.Record.TheVariants.{Agent}

abbrev pub is_session_record : Record → Bool
is_session_record (Agent conn answer) = false
is_session_record output = true

-- none of these is an agent's
abbrev pub AreSessions : List Record → Type 0
AreSessions [] = Unit {0}
AreSessions (output ∷ records) = (is_session_record output ≡ true) × AreSessions records
