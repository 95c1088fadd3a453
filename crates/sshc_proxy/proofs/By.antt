-- Words that proofs of functions unfold, from one place with a short path.
pub use Rattle.sshc_key.specs.KeyReading.{octets_at, utf8_at}
