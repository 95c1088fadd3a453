-- A key pair is seen as its public key and its private part.
use Rattle.sshc_key.specs.declared.pair.PrivateKey.TheInside.{Inside}
use Rattle.sshc_key.specs.PairCode.{KeyPair}

abbrev pub paired : Inside → KeyPair
paired k = record { public = k.public; pair = k.pair }
