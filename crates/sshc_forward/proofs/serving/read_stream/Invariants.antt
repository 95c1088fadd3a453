use Rattle.std.proofs.Common.{◌<◌, vec_len}
use Rattle.sshc_forward.proofs.serving.read_stream.Given as goal

abbrev pub invariant-loop : goal.invariant-loop
invariant-loop g l = 0 < vec_len l.piece
