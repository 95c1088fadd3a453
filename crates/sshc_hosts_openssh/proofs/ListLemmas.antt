-- What a list of patterns names, pattern by pattern.
use Rattle.std.proofs.Common.{◌≡◌, Bool, true, false, List, ℕ, ◌∷◌, refl}
use Rattle.std.specs.Prelude.{◌&&◌, ◌||◌, not, if◌then◌else◌}
use Rattle.std.specs.List.{list_any, list_all}
use Rattle.sshc_hosts_openssh.specs.declared.hosts_field.PartSays.{PartSays}
use Rattle.sshc_hosts_openssh.specs.declared.hosts_field.PartSays.TheVariants.{Nothing, Included, Excluded}
use Rattle.sshc_hosts_openssh.specs.Patterns.{matches}
use Rattle.sshc_hosts_openssh.specs.HostsField.{includes, excludes, is_negated, is_short, pattern_in}
use Rattle.sshc_hosts_openssh.specs.Cuts.{names_from, said_part}

-- what a pattern says, by whether it is short, matches and is negated
abbrev says : Bool → Bool → Bool → PartSays
says short fit negated = if not short then Excluded else if not fit then Nothing else if negated then Excluded else Included

-- and what a list names that begins with it: `more` and `less` are what the rest includes and excludes
abbrev named : Bool → Bool → Bool → Bool → Bool → Bool → Bool → Bool
named included short fit negated more less rest = (included || ((not negated && fit) || more)) && not ((negated && fit) || less) && (short && rest)

none_left : (a b c : Bool) → (a && b && (false && c)) ≡ false
none_left true true c = refl
none_left true false c = refl
none_left false b c = refl

excluded_by : (included short fit negated more less rest : Bool) → says short fit negated ≡ Excluded → named included short fit negated more less rest ≡ false
excluded_by included false fit negated more less rest e = none_left (included || ((not negated && fit) || more)) (not ((negated && fit) || less)) rest
excluded_by true true true true more less rest e = refl
excluded_by false true true true true less rest e = refl
excluded_by false true true true false less rest e = refl
excluded_by included true false negated more less rest e = let c : Nothing ≡ Excluded = e in absurd (cc)
excluded_by included true true false more less rest e = let c : Included ≡ Excluded = e in absurd (cc)

included_by : (included short fit negated more less rest : Bool) → says short fit negated ≡ Included
    → named included short fit negated more less rest ≡ (true && not less && rest)
included_by included false fit negated more less rest e = let c : Excluded ≡ Included = e in absurd (cc)
included_by included true false negated more less rest e = let c : Nothing ≡ Included = e in absurd (cc)
included_by included true true true more less rest e = let c : Excluded ≡ Included = e in absurd (cc)
included_by true true true false more less rest e = refl
included_by false true true false more less rest e = refl

nothing_by : (included short fit negated more less rest : Bool) → says short fit negated ≡ Nothing
    → named included short fit negated more less rest ≡ ((included || more) && not less && rest)
nothing_by included false fit negated more less rest e = let c : Excluded ≡ Nothing = e in absurd (cc)
nothing_by included true true true more less rest e = let c : Excluded ≡ Nothing = e in absurd (cc)
nothing_by included true true false more less rest e = let c : Included ≡ Nothing = e in absurd (cc)
nothing_by included true false true more less rest e = refl
nothing_by included true false false more less rest e = refl

-- a list that begins with a pattern
pub with_excluded : (included : Bool) (name part : List ℕ) (parts : List (List ℕ)) → said_part name part ≡ Excluded → names_from included name (part ∷ parts) ≡ false
with_excluded included name part parts e =
    excluded_by included (is_short part) (matches (pattern_in part) name) (is_negated part) (list_any (includes name) parts) (list_any (excludes name) parts) (list_all is_short parts) e

pub with_included : (included : Bool) (name part : List ℕ) (parts : List (List ℕ)) → said_part name part ≡ Included
    → names_from included name (part ∷ parts) ≡ names_from true name parts
with_included included name part parts e =
    included_by included (is_short part) (matches (pattern_in part) name) (is_negated part) (list_any (includes name) parts) (list_any (excludes name) parts) (list_all is_short parts) e

pub with_nothing : (included : Bool) (name part : List ℕ) (parts : List (List ℕ)) → said_part name part ≡ Nothing
    → names_from included name (part ∷ parts) ≡ names_from included name parts
with_nothing included name part parts e =
    nothing_by included (is_short part) (matches (pattern_in part) name) (is_negated part) (list_any (includes name) parts) (list_any (excludes name) parts) (list_all is_short parts) e
