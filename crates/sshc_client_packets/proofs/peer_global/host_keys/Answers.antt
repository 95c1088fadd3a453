use Rattle.std.proofs.Common.{◌<◌, [], length, rules}
use Rattle.std.proofs.lemmas.Result.{err_from_is_err_and}
use Rattle.sshc_wire.specs.Whole.{all_at}
use Rattle.sshc_client_packets.specs.Parts.{octets_at}
use Rattle.sshc_client_packets.specs.PeerGlobals.{host_keys_of}
use Rattle.sshc_client_packets.proofs.KeyLists.{with_keys, goes_on, is_done, octets_take, stops}
use Rattle.sshc_client_packets.proofs.peer_global.host_keys.Goals as goal

pub returns-in_err-blob : goal.returns-in_err-blob
unfolding host_keys_of
returns-in_err-blob c =
    let p = err_from_is_err_and c.from_residual.result c.from_residual.ensures.1 in
    let more : 0 < length c.loop-c.c = search rules in
    rw (p.1, p.2) (stops c.in_err-blob.field-0.0 c.loop-c.keys c.loop-c.c (with_keys [] (all_at octets_at c.args.bytes.now)) more c.in_err-blob.ensures c.loop-c.invariant)

pub loop-c-smaller : goal.loop-c-smaller
loop-c-smaller c = octets_take c.loop-c.c c.in_ok-blob.blob.now c.octets_of.new.c c.in_ok-blob.ensures

pub loop-c-preserved : goal.loop-c-preserved
loop-c-preserved c = rw c.in_ok-keep_key.ensures.ok (goes_on c.loop-c.keys c.loop-c.c c.in_ok-blob.blob.now c.octets_of.new.c (with_keys [] (all_at octets_at c.args.bytes.now)) c.in_ok-blob.ensures c.loop-c.invariant)

pub returns : goal.returns
unfolding host_keys_of
returns c = is_done c.loop-c.keys c.loop-c.c (with_keys [] (all_at octets_at c.args.bytes.now)) (search rules) c.loop-c.invariant
