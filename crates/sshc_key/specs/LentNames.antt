-- The names and the kinds of keys that a call borrows.
use Rattle.std.specs.Prelude.{ℕ, List}
use Rattle.sshc_key.specs.declared.algorithm_name.AlgorithmName.{AlgorithmName}
use Rattle.sshc_key.specs.declared.algorithm_name.AlgorithmName.TheVariants as names
use Rattle.sshc_key.specs.declared.kind.Kind.{Kind}
use Rattle.sshc_key.specs.declared.kind.Kind.TheVariants as kinds
use Rattle.sshc_key.specs.declared.writing.names.KindRef.{KindRef}
use Rattle.sshc_key.specs.declared.writing.names.KindRef.TheVariants as lent
use Rattle.sshc_key.specs.AlgorithmNames.{marked_name}

-- the bytes of a name
abbrev pub spelled : AlgorithmName → List ℕ
spelled (names.Known name) = name.now
spelled (names.Own name) = name.now
spelled (names.Certified name) = marked_name name.now

abbrev pub kind_lent : KindRef → Kind
kind_lent (lent.Known known) = kinds.Known known
kind_lent (lent.Opaque name) = kinds.Opaque name.now
