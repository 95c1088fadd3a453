-- How a user is to be authenticated, by its number in an event.
-- A number for each sort, and the sort of a number as its inverse, which a law says.
use Rattle.std.proofs.Common.{ℕ, Option, Some, None, ◌==◌, if◌then◌else◌}
use Rattle.sshc_run_reader.specs.declared.method_sort.MethodSort.{MethodSort}
use Rattle.sshc_run_reader.specs.declared.method_sort.MethodSort.TheVariants.{Nothing, Password, PublicKey, OpenSshCertificate, FuturePublicKey, FutureCertificate, KeyboardInteractive, GssapiWithMic}

abbrev pub method_sort_number : MethodSort → ℕ
method_sort_number Nothing = 0
method_sort_number Password = 1
method_sort_number PublicKey = 2
method_sort_number OpenSshCertificate = 3
method_sort_number FuturePublicKey = 4
method_sort_number FutureCertificate = 5
method_sort_number KeyboardInteractive = 6
method_sort_number GssapiWithMic = 7

abbrev pub method_sort_numbered : ℕ → Option MethodSort
method_sort_numbered n =
    if n == 0 then Some Nothing
    else (if n == 1 then Some Password
    else (if n == 2 then Some PublicKey
    else (if n == 3 then Some OpenSshCertificate
    else (if n == 4 then Some FuturePublicKey
    else (if n == 5 then Some FutureCertificate
    else (if n == 6 then Some KeyboardInteractive
    else (if n == 7 then Some GssapiWithMic else None)))))))
