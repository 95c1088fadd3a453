use Rattle.std.proofs.Common.{◌≡◌, ◌++◌, length}
use denote.Shadow.{shadow}
use denote.Text.{Utf8}
use Rattle.std.specs.List.{filter_map}
use Rattle.sshc_hosts.specs.MatchingLines.{parts_at}
use Rattle.sshc_proxy_policy.specs.WrittenPolicy.{fields, key_file, key_files}
use Rattle.sshc_proxy_policy.proofs.files.key_files.Given as goal

-- the files so far and those of the lines that are left are all
abbrev pub invariant-lines : goal.invariant-lines
invariant-lines l = (l.files.items ++ filter_map (λ line. key_file (fields line)) (parts_at 10 l.left) ≡ key_files l.text) × shadow (Utf8 l.left)

abbrev pub decreases-lines : goal.decreases-lines
decreases-lines l = length l.left
