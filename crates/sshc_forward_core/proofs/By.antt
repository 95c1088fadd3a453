-- Words that proofs of functions unfold, from one place with a short path.
pub use Rattle.sshc_forward_core.specs.EventText.{accepted_at, number_and_bytes, octets_at, u32_at, words_at}
