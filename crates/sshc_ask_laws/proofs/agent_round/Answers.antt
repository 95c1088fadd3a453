use Rattle.sshc_ask_laws.proofs.Answers.{lists_keys, reads_answers, signature_again, signed_again}
use Rattle.sshc_ask_laws.proofs.Messages.{flag_is_hash, signs_bytes, takes_call}
use Rattle.sshc_ask_laws.proofs.agent_round.Goals as goal

pub returns : goal.returns
returns c = record {
  round = record {
    takes = takes_call;
    signs = signs_bytes;
    hash = flag_is_hash;
    reads = reads_answers;
    lists = lists_keys;
    signed = signed_again;
    signature = signature_again;
  };
}
