-- A blob that no key of a listing has.
use Rattle.std.proofs.Common.{◌≡◌, ℕ, ◌≤◌, Bool, true, false, cond, List, Some, None, length, refl, ◌∙◌}
use Rattle.std.specs.List.{position_or_len}
use Rattle.std.proofs.lemmas.List.Folds.{find_at}
use Rattle.std.proofs.lemmas.Option.{slice_get_past}
use Rattle.std.specs.Prelude.{nat_lt, position}
use Rattle.std.proofs.lemmas.Bool.{ltb-false}
use Rattle.sshc_agent_core.specs.declared.key_list.HeldKey.{HeldKey}
use Rattle.sshc_agent_core.specs.KeyList.{held, is_key}

nowhere_by : (b : Bool) (at : ℕ) → None ≡ cond b (Some at) None → b ≡ false
nowhere_by true at e = absurd cc
nowhere_by false at e = refl

-- a blob without an index isn't found
pub nowhere : (keys : List HeldKey) (blob : List ℕ) → None ≡ position (is_key blob) keys → held keys blob ≡ None
nowhere keys blob e =
    let at = position_or_len (is_key blob) keys in
    let past : length keys ≤ at = ltb-false at (length keys) (nowhere_by (nat_lt at (length keys)) at e) in
    find_at (is_key blob) keys ∙ slice_get_past keys at past
