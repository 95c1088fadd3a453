use Rattle.std.proofs.Common.{◌≡◌, ◌≢◌, List, [], map, sym, ap, subst, ◌∙◌, IfOk, MatchOption, slice_get, option_map, unwrap_or}
use Rattle.sshc_agent_shared.specs.declared.call.Call.{Call}
use Rattle.sshc_agent_shared.specs.Calls.{call_in}
use Rattle.sshc_agent_shared.proofs.Parting.{map_twice}
use Rattle.sshc_agent_shared.proofs.groups.Groups.first_tear.Goals as goal

pub returns-in-Some : goal.returns-in-Some
returns-in-Some c =
    let same = ap (map (λ e. call_in e.now)) c.as_slice.ensures.value
    ∙ (sym (map_twice call_in (λ e. e.now) c.in-Some.entries.now.items)
    ∙ ap (λ o. map call_in (unwrap_or (option_map (λ v. map (λ e. e.now) v.items) o) [])) c.in-Some.ensures) in
    subst (λ (cs : List Call). IfOk c.first_tear.result (λ r. MatchOption r (cs ≡ c.args.calls.now) (λ t. (t.got ≡ slice_get c.args.calls.now t.at) × (t.kept ≡ slice_get cs t.at) × (t.got ≢ t.kept)))) same c.first_tear.ensures
