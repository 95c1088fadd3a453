-- Laws of the definitions in specs/MethodSorts.antt.
use Rattle.std.proofs.Common.{◌≡◌, ℕ, Some, refl, arith}
use Rattle.std.proofs.lemmas.Bool.Decides.{nat_tests}
use Rattle.sshc_run_reader.specs.declared.method_sort.MethodSort.{MethodSort}
use Rattle.sshc_run_reader.specs.declared.method_sort.MethodSort.TheVariants.{Nothing}
use Rattle.sshc_run_reader.specs.MethodSorts.{method_sort_number, method_sort_numbered}

pub method_sort_again : (s : MethodSort) → method_sort_numbered (method_sort_number s) ≡ Some s
method_sort_again Nothing = refl
method_sort_again s = refl

pub method_sort_is : (n : ℕ) (s : MethodSort) → method_sort_numbered n ≡ Some s → method_sort_number s ≡ n
method_sort_is n s h = grind (arith, nat_tests)
