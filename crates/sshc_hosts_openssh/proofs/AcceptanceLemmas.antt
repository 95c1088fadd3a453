-- An accepted key is revoked by no line.
use Rattle.std.proofs.Common.{Result, Ok, Err, IfOk, ◌≡◌, ℕ, ◌+◌, Bool, true, false, List, [], ◌∷◌, Option, Some, None, refl, ap, sym, ◌∙◌}
use Rattle.std.specs.Prelude.{All, ◌==◌, if◌then◌else◌}
use Rattle.std.specs.List.{filter_map, enumerate_from}
use Rattle.std.proofs.lemmas.List.Elements.{All-cons, All-nil}
use Rattle.sshc_key.specs.KeyGrammar.{Key}
use Rattle.sshc_hosts_openssh.specs.declared.judgement.Finding.{Finding}
use Rattle.sshc_hosts_openssh.specs.declared.judgement.Finding.TheVariants.{Revokes, Certifies, Records, Contradicts}
use Rattle.sshc_hosts_openssh.specs.declared.judgement.HostStatus.{HostStatus}
use Rattle.sshc_hosts_openssh.specs.declared.judgement.HostStatus.TheVariants.{Known, Certified, Changed, Revoked, Unknown}
use Rattle.sshc_hosts_openssh.specs.Lines.{lines}
use Rattle.sshc_hosts_openssh.specs.HostsField.{name_of}
use Rattle.sshc_hosts_openssh.specs.HostStatus.{said_by, numbered, findings, revokes, certifies, records, contradicts, first_line, last_line, status, only_if, status_by, or_without_port, status_at}
use Rattle.sshc_hosts_openssh.specs.Acceptance.{is_accepted, is_revoking, IsUnrevoked, AcceptsUnrevoked}
use Rattle.sshc_hosts_openssh.proofs.ReadingLemmas.{and_more, cut_off}

abbrev NotRevoking : List ℕ → Key → List ℕ → Type 0
NotRevoking name key line = is_revoking (said_by name key line) ≡ false

abbrev NoneFrom : List ℕ → Key → ℕ → List (List ℕ) → Type 0
NoneFrom name key number ls = first_line revokes (filter_map (numbered name key) (enumerate_from number ls)) ≡ None

by_finding : (name : List ℕ) (key : Key) (line : List ℕ) (number : ℕ) (left : List (ℕ × Finding)) (said : Option Finding) → said_by name key line ≡ said
    → first_line revokes (and_more said number left) ≡ None → NotRevoking name key line × (first_line revokes left ≡ None)
by_finding name key line number left None is h = (ap is_revoking is, h)
by_finding name key line number left (Some Revokes) is h = let e : Some number ≡ None = h in absurd (cc)
by_finding name key line number left (Some Certifies) is h = (ap is_revoking is, h)
by_finding name key line number left (Some Records) is h = (ap is_revoking is, h)
by_finding name key line number left (Some Contradicts) is h = (ap is_revoking is, h)

none_revokes : (name : List ℕ) (key : Key) (number : ℕ) (ls : List (List ℕ)) → NoneFrom name key number ls → All (NotRevoking name key) ls
none_revokes name key number [] h = All-nil (NotRevoking name key)
none_revokes name key number (line ∷ ls) h =
    let (first, later) = by_finding name key line number (filter_map (numbered name key) (enumerate_from (number + 1) ls)) (said_by name key line) refl
    (sym (ap (first_line revokes) (cut_off name key line number ls (said_by name key line) refl)) ∙ h) in
    All-cons (NotRevoking name key) line ls first (none_revokes name key (number + 1) ls later)

-- a status that leaves it open whether the key is accepted
abbrev IsOpen : HostStatus → Type 0
IsOpen (Revoked line) = ⊥
IsOpen s = Unit {0}

open_case : (revoking certifying recording contrary : Option ℕ) → IsOpen (status revoking certifying recording contrary) → revoking ≡ None
open_case None certifying recording contrary h = refl
open_case (Some line) certifying recording contrary h = absurd h

unrevoked : (text name : List ℕ) (key : Key) (good : Bool) → IsOpen (status_by text name key good) → IsUnrevoked text name key
unfolding status_by
unrevoked text name key good h =
    none_revokes name key 1 (lines text)
    (open_case (first_line revokes (findings text name key)) (only_if good (first_line certifies (findings text name key)))
    (first_line records (findings text name key)) (last_line contradicts (findings text name key)) h)

open_if : (s : HostStatus) → is_accepted s ≡ true → IsOpen s
open_if (Known line) h = tt
open_if (Certified line) h = tt
open_if (Changed line) h = tt
open_if Unknown h = tt
open_if (Revoked line) h = let e : false ≡ true = h in absurd (cc)

open_or : (s t : HostStatus) → is_accepted (or_without_port s t) ≡ true → IsOpen s
open_or (Known line) t h = tt
open_or (Certified line) t h = tt
open_or (Changed line) t h = tt
open_or Unknown t h = tt
open_or (Revoked line) t h = let e : false ≡ true = h in absurd (cc)

at_port : (b : Bool) (s t : HostStatus) → is_accepted (if b then s else or_without_port s t) ≡ true → IsOpen s
at_port true s t h = open_if s h
at_port false s t h = open_or s t h

pub accepts_unrevoked : (text host : List ℕ) (port : ℕ) (key : Key) (good : Bool) (s : HostStatus) → s ≡ status_at text host port key good → AcceptsUnrevoked text host port key s
unfolding status_at
accepts_unrevoked text host port key good s is h =
    unrevoked text (name_of host port) key good (at_port (port == 22) (status_by text (name_of host port) key good) (status_by text (name_of host 22) key good) (sym (ap is_accepted is) ∙ h))

pub result_unrevoked : {E : Type 0} (text host : List ℕ) (port : ℕ) (key : Key) (good : Bool) (r : Result HostStatus E) → IfOk r (λ s. s ≡ status_at text host port key good)
    → IfOk r (AcceptsUnrevoked text host port key)
result_unrevoked text host port key good (Ok s) is = accepts_unrevoked text host port key good s is
result_unrevoked text host port key good (Err e) is = tt
