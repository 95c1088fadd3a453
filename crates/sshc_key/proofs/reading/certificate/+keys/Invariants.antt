use Rattle.std.proofs.Common.{◌+◌, ◌*◌}
use Rattle.sshc_key.proofs.reading.certificate.+keys.Given as goal

abbrev pub decreases-certificate_of : goal.decreases-certificate_of
decreases-certificate_of l = 4 * l.levels + 3

abbrev pub decreases-key_of : goal.decreases-key_of
decreases-key_of l = 4 * l.levels

abbrev pub decreases-signed_of : goal.decreases-signed_of
decreases-signed_of l = 4 * l.levels + 2

abbrev pub decreases-whole_key : goal.decreases-whole_key
decreases-whole_key l = 4 * l.levels + 1
