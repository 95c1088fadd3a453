-- What contracts see of a signer that keeps its calls: the list, and how often it refused.
use Rattle.std.specs.Prelude.{ℕ, List}
use Rattle.sshc_key.specs.Signers.{SignCall}

pub record KeptCalls : Type 0 where
  pub calls : List SignCall
  pub refusals : ℕ
