-- That what the threads of a pair share may be used by both.
use denote.RattleType.{RattleType}
use denote.Ref.{NamedLft}
use denote.Param.Send.{IsSend, IsSync, sendable}
use Rattle.std.proofs.Crossing.{crosses}
use Rattle.sshc_handle.proofs.Sending.{handle_sync}
use Rattle.sshc_forward_core.proofs.served.ServedPair.TheSendSync as served
use Rattle.sshc_forward.specs.contracts.shared.Shared as Shared

module _ (κ : NamedLft) (H E : RattleType) where
  pub shared_sync : IsSend H → IsSync (Shared.the_row κ H E)
  shared_sync h = let s = handle_sync H E h in search (served.the_send, sendable, crosses) depth 60 fits 60000
