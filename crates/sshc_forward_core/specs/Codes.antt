-- Codes by which proofs tell states apart.
use Rattle.std.specs.Prelude.{◌≡◌, ℕ, Bool, List, Option, refl}
use Rattle.std.specs.Coded.{Coded, code_by, coded×, coded_ℕ, coded_bool, coded_list, coded_option}
use Rattle.std.specs.FinMap.{FinMap, code}
use Rattle.std.specs.Ordering.{nat_cmp}
use Rattle.std.proofs.Common.{ap, zero, suc}
use Rattle.sshc_forward_core.specs.declared.pair.Reading.{Reading}
use Rattle.sshc_forward_core.specs.declared.pair.Reading.TheVariants.{Going, Ended, Failed}
use Rattle.sshc_forward_core.specs.PairState.{PairState}
use Rattle.sshc_forward_core.specs.Forwards.{Forwards}

abbrev pub number_of : Reading → ℕ
number_of Going = 0
number_of Ended = 1
number_of Failed = 2

abbrev pub reading_of : ℕ → Reading
reading_of zero = Going
reading_of (suc zero) = Ended
reading_of (suc (suc n)) = Failed

pub same_reading : (r : Reading) → reading_of (number_of r) ≡ r
same_reading Going = refl
same_reading Ended = refl
same_reading Failed = refl

abbrev pub pair_code : Coded PairState
pair_code =
    code_by ((Option ℕ × List (List ℕ)) × (ℕ × Bool))
    (coded× (coded× (coded_option coded_ℕ) (coded_list (coded_list coded_ℕ))) (coded× coded_ℕ coded_bool))
    (λ p. ((p.channel, p.held), (number_of p.reading, p.channel_ended)))
    (λ q. record { channel = q.0.0; held = q.0.1; reading = reading_of q.1.0; channel_ended = q.1.1 })
    (λ p. ap (λ r. record p { reading = r }) (same_reading p.reading))

abbrev pub forwards_code : Coded Forwards
forwards_code =
    code_by (FinMap nat_cmp PairState × FinMap nat_cmp ℕ)
    (coded× (code coded_ℕ pair_code) (code coded_ℕ coded_ℕ))
    (λ t. (t.pairs, t.joined))
    (λ q. record { pairs = q.0; joined = q.1 })
    (λ _. refl)
