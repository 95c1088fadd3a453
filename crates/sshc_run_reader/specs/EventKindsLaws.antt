-- Laws of the definitions in specs/EventKinds.antt.
use Rattle.std.proofs.Common.{◌≡◌, ℕ, Option, Some, refl, arith}
use Rattle.std.proofs.lemmas.Bool.Decides.{nat_tests}
use Rattle.sshc_run_reader.specs.declared.event_kind.EventKind.{EventKind}
use Rattle.sshc_run_reader.specs.declared.event_kind.EventKind.TheVariants.{PeerKexinit}
use Rattle.sshc_run_reader.specs.EventKinds.{kind_number, transport_kind, timer_kind, authentication_kind, open_kind, forward_kind, channel_kind, request_kind, agent_kind, kind_numbered}

-- ---- the law

-- each kind is found by its number
pub number_again : (k : EventKind) → kind_numbered (kind_number k) ≡ Some k
number_again PeerKexinit = refl
number_again k = refl

abbrev Names : (ℕ → Option EventKind) → Type 0
Names kinds = (n : ℕ) (k : EventKind) → kinds n ≡ Some k → kind_number k ≡ n

groups_name : Names transport_kind × Names timer_kind × Names authentication_kind × Names open_kind × Names forward_kind
    × Names channel_kind × Names request_kind × Names agent_kind
groups_name = (
  λ n k h. grind (arith, nat_tests),
  λ n k h. grind (arith, nat_tests),
  λ n k h. grind (arith, nat_tests),
  λ n k h. grind (arith, nat_tests),
  λ n k h. grind (arith, nat_tests),
  λ n k h. grind (arith, nat_tests),
  λ n k h. grind (arith, nat_tests),
  λ n k h. grind (arith, nat_tests),
)

-- a kind that is found has the number
pub numbered_is : (n : ℕ) (k : EventKind) → kind_numbered n ≡ Some k → kind_number k ≡ n
numbered_is n k h =
    let g = groups_name in
    grind (arith, nat_tests, g.0 n k, g.1 n k, g.2 n k, g.3 n k, g.4 n k, g.5 n k, g.6 n k, g.7 n k)
