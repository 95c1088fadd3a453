-- Words that proofs of functions unfold, from one place with a short path.
pub use Rattle.sshc_run_reader.specs.EventReading.{direct_tcpip_at, host_keys_prove_of, open_direct_tcpip_of, server_open_reply_at, server_open_reply_of}
