-- Codes by which proofs tell the states of a served pair apart.
use Rattle.std.specs.Prelude.{ℕ, Bool, refl}
use Rattle.std.specs.Coded.{Coded, code_by, coded×, coded_ℕ, coded_bool}
use Rattle.sshc_forward_core.specs.declared.given.Given.{Given}
use Rattle.sshc_forward_core.specs.Forwards.{Forwards}
use Rattle.sshc_forward_core.specs.Codes.{forwards_code}
use Rattle.sshc_forward_core.specs.Served.{Served}

abbrev pub given_code : Coded Given
given_code =
    code_by ((Bool × Bool) × (Bool × Bool))
    (coded× (coded× coded_bool coded_bool) (coded× coded_bool coded_bool))
    (λ g. ((g.eof, g.ending), (g.close, g.gone)))
    (λ q. record { eof = q.0.0; ending = q.0.1; close = q.1.0; gone = q.1.1 })
    (λ _. refl)

abbrev pub served_code : Coded Served
served_code =
    code_by (ℕ × (Forwards × Given))
    (coded× coded_ℕ (coded× forwards_code given_code))
    (λ s. (s.number, (s.pairs, s.given)))
    (λ q. record { number = q.0; pairs = q.1.0; given = q.1.1 })
    (λ _. refl)
