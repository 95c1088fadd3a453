-- Laws of the definitions in specs/Methods.antt.
use Rattle.std.specs.Cmp.{IsEquivalence}
use Rattle.std.specs.Cmp.Lexicographic.{on_texts_equal}
use Rattle.sshc_wire.specs.Methods.{method_name, is_method}

pub method_equiv : IsEquivalence is_method
method_equiv = on_texts_equal method_name
