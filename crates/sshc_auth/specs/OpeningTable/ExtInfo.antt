-- The row of EXT_INFO in phases Service and Auth (RFC 8308, sections 2.3 and 2.4).
use Rattle.std.specs.Prelude.{ℕ, ◌+◌, ◌++◌, nat_le, Bool, List, if◌then◌else◌}
use Rattle.sshc_auth.specs.declared.error.Error.TheVariants.{Inconsistent}
use Rattle.sshc_auth.specs.declared.extension.Extension.{Extension}
use Rattle.sshc_auth.specs.Extensions.{extensions_at, answers_to, still_waiting, last_listed, names_of}
use Rattle.sshc_auth.specs.OpeningState.{OpeningState}
use Rattle.sshc_auth.specs.Row.{Row, goes, refused, with_part, broken_row, ends_at}

-- each extension's name is seen, its waiters are answered, and the last list of signature names counts
abbrev pub extensions_row : OpeningState → List Extension → Row
extensions_row s extensions = goes (answers_to extensions s.waiters) (record s {
  ext_infos = s.ext_infos + 1;
  sig_algs = last_listed extensions s.sig_algs;
  seen = s.seen ++ names_of extensions;
  waiters = still_waiting extensions s.waiters;
})

-- a server sends two of them at most
abbrev pub is_third : OpeningState → Bool
is_third s = nat_le 2 s.ext_infos

-- 7, EXT_INFO (RFC 8308, section 2.3): the extensions' number and the extensions, end; who waited for one resolves as
-- ExtInfoSeen
unfoldable pub ext_info_row : OpeningState → List ℕ → Row
ext_info_row s body =
    if is_third s then refused Inconsistent
    else with_part broken_row (extensions_at body) (λ extensions left. ends_at left (extensions_row s extensions))
