-- Signals by their names (RFC 4254, section 6.10).
-- A table of names; each other name represents itself.
use Rattle.std.specs.Prelude.{ℕ, List, codes, bytes_eq, if◌then◌else◌}
use Rattle.sshc_wire.specs.declared.signal.Sig.{Sig}
use Rattle.sshc_wire.specs.declared.signal.Sig.TheVariants as signals

abbrev pub signal_name : Sig → List ℕ
signal_name signals.ABRT = codes "ABRT"
signal_name signals.ALRM = codes "ALRM"
signal_name signals.FPE = codes "FPE"
signal_name signals.HUP = codes "HUP"
signal_name signals.ILL = codes "ILL"
signal_name signals.INT = codes "INT"
signal_name signals.KILL = codes "KILL"
signal_name signals.PIPE = codes "PIPE"
signal_name signals.QUIT = codes "QUIT"
signal_name signals.SEGV = codes "SEGV"
signal_name signals.TERM = codes "TERM"
signal_name signals.USR1 = codes "USR1"
signal_name (signals.Custom name) = name

abbrev pub signal_of : List ℕ → Sig
signal_of name =
    if bytes_eq name (codes "ABRT") then signals.ABRT
    else (if bytes_eq name (codes "ALRM") then signals.ALRM
    else (if bytes_eq name (codes "FPE") then signals.FPE
    else (if bytes_eq name (codes "HUP") then signals.HUP
    else (if bytes_eq name (codes "ILL") then signals.ILL
    else (if bytes_eq name (codes "INT") then signals.INT
    else (if bytes_eq name (codes "KILL") then signals.KILL
    else (if bytes_eq name (codes "PIPE") then signals.PIPE
    else (if bytes_eq name (codes "QUIT") then signals.QUIT
    else (if bytes_eq name (codes "SEGV") then signals.SEGV
    else (if bytes_eq name (codes "TERM") then signals.TERM
    else (if bytes_eq name (codes "USR1") then signals.USR1
    else signals.Custom name)))))))))))
