-- What the lines that were read decide, and those that are left.
use Rattle.std.proofs.Common.{Bool, ◌≡◌, ℕ, ◌+◌, List, [], ◌∷◌, Option, Some, None, refl, ap, sym, ◌∙◌}
use Rattle.std.specs.List.{filter_map, enumerate_from}
use Rattle.std.specs.Option.{option_or}
use Rattle.sshc_key.specs.KeyGrammar.{Key}
use Rattle.sshc_hosts_openssh.specs.declared.judgement.Deciding.{Deciding}
use Rattle.sshc_hosts_openssh.specs.declared.judgement.Finding.{Finding}
use Rattle.sshc_hosts_openssh.specs.declared.judgement.Finding.TheVariants.{Revokes, Certifies, Records, Contradicts}
use Rattle.sshc_hosts_openssh.specs.declared.judgement.HostStatus.{HostStatus}
use Rattle.sshc_hosts_openssh.specs.Lines.{lines}
use Rattle.sshc_hosts_openssh.specs.HostStatus.{only_if, said_by, numbered, findings, revokes, certifies, records, contradicts, first_line, last_line, status, status_by}
use Rattle.sshc_hosts_openssh.specs.Reading.{undecided, with_line}

-- what the lines that were read decided, what the others say, and what all of them say
pub record IsSoFar (deciding : Deciding) (left all : List (ℕ × Finding)) : Type 0 where
  pub revoking : option_or deciding.revoking (first_line revokes left) ≡ first_line revokes all
  pub certifying : option_or deciding.certifying (first_line certifies left) ≡ first_line certifies all
  pub recording : option_or deciding.recording (first_line records left) ≡ first_line records all
  pub contrary : option_or (last_line contradicts left) deciding.contrary ≡ last_line contradicts all

-- the findings from a line on
abbrev pub findings_from : List ℕ → Key → ℕ → List ℕ → List (ℕ × Finding)
findings_from name key number left = filter_map (numbered name key) (enumerate_from number (lines left))

-- one more finding
abbrev pub and_more : Option Finding → ℕ → List (ℕ × Finding) → List (ℕ × Finding)
and_more None number left = left
and_more (Some finding) number left = (number, finding) ∷ left

or_none : (o : Option ℕ) → option_or o None ≡ o
or_none None = refl
or_none (Some n) = refl

or_or : (a b c : Option ℕ) → option_or (option_or a b) c ≡ option_or a (option_or b c)
or_or None b c = refl
or_or (Some n) b c = refl

more : (deciding : Deciding) (said : Option Finding) (number : ℕ) (left all : List (ℕ × Finding)) → IsSoFar deciding (and_more said number left) all
    → IsSoFar (with_line deciding said number) left all
more deciding None number left all so = so
more deciding (Some Revokes) number left all so = record {
  revoking = or_or deciding.revoking (Some number) (first_line revokes left) ∙ so.revoking;
  certifying = so.certifying;
  recording = so.recording;
  contrary = ap (λ o. option_or o deciding.contrary) (sym (or_none (last_line contradicts left))) ∙ so.contrary;
}
more deciding (Some Certifies) number left all so = record {
  revoking = so.revoking;
  certifying = or_or deciding.certifying (Some number) (first_line certifies left) ∙ so.certifying;
  recording = so.recording;
  contrary = ap (λ o. option_or o deciding.contrary) (sym (or_none (last_line contradicts left))) ∙ so.contrary;
}
more deciding (Some Records) number left all so = record {
  revoking = so.revoking;
  certifying = so.certifying;
  recording = or_or deciding.recording (Some number) (first_line records left) ∙ so.recording;
  contrary = ap (λ o. option_or o deciding.contrary) (sym (or_none (last_line contradicts left))) ∙ so.contrary;
}
more deciding (Some Contradicts) number left all so = record {
  revoking = so.revoking;
  certifying = so.certifying;
  recording = so.recording;
  contrary = sym (or_or (last_line contradicts left) (Some number) deciding.contrary) ∙ so.contrary;
}

pub cut_off : (name : List ℕ) (key : Key) (line : List ℕ) (number : ℕ) (others : List (List ℕ)) (said : Option Finding) → said_by name key line ≡ said
    → filter_map (numbered name key) (enumerate_from number (line ∷ others)) ≡ and_more said number (filter_map (numbered name key) (enumerate_from (number + 1) others))
cut_off name key line number others None is = rw is refl
cut_off name key line number others (Some finding) is = rw is refl

pub begun : (text name : List ℕ) (key : Key) → IsSoFar undecided (findings_from name key 1 text) (findings text name key)
begun text name key = record { revoking = refl; certifying = refl; recording = refl; contrary = or_none (last_line contradicts (findings text name key)) }

pub next_line : (name : List ℕ) (key : Key) (deciding : Deciding) (said : Option Finding) (number : ℕ) (left line rest : List ℕ) (all : List (ℕ × Finding))
    → IsSoFar deciding (findings_from name key number left) all → lines left ≡ line ∷ lines rest → said ≡ said_by name key line
    → IsSoFar (with_line deciding said number) (findings_from name key (number + 1) rest) all
next_line name key deciding said number left line rest all so is says =
    more deciding said number (findings_from name key (number + 1) rest) all
    (let same : findings_from name key number left ≡ and_more said number (findings_from name key (number + 1) rest) =
    ap (λ ls. filter_map (numbered name key) (enumerate_from number ls)) is ∙ cut_off name key line number (lines rest) said (sym says) in
    rw same at so)

abbrev pub status_of : Bool → Deciding → HostStatus
status_of good deciding = status deciding.revoking (only_if good deciding.certifying) deciding.recording deciding.contrary

pub last_of : (text name : List ℕ) (key : Key) (good : Bool) (deciding : Deciding) (said : Option Finding) (number : ℕ) (left line : List ℕ)
    → IsSoFar deciding (findings_from name key number left) (findings text name key) → lines left ≡ line ∷ [] → said ≡ said_by name key line
    → status_of good (with_line deciding said number) ≡ status_by text name key good
unfolding status_by
last_of text name key good deciding said number left line so is says =
    let same : findings_from name key number left ≡ and_more said number [] =
    ap (λ ls. filter_map (numbered name key) (enumerate_from number ls)) is ∙ cut_off name key line number [] said (sym says) in
    let end : IsSoFar (with_line deciding said number) [] (findings text name key) = more deciding said number [] (findings text name key) (rw same at so) in
    let d : Deciding = with_line deciding said number in
    rw (sym (sym (or_none d.revoking) ∙ end.revoking), sym (sym (or_none d.certifying) ∙ end.certifying), sym (sym (or_none d.recording) ∙ end.recording), sym end.contrary) refl
