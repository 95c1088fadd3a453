-- A public key is seen as its key and its comment.
use Rattle.std.specs.Prelude.{ℕ, List}
use Rattle.sshc_key.specs.declared.public_key.PublicKey.TheInside.{Inside}
use Rattle.sshc_key.specs.KeyGrammar.{Key}
use Rattle.sshc_key.specs.View.{view}

abbrev pub commented : Inside → Key × List ℕ
commented k = (view k.key, k.comment)
