-- Laws of the definitions in specs/SignedEntries.antt.
use Rattle.std.proofs.Common.{◌≡◌, ℕ, List, [], ◌∷◌, Some, refl, sym, ◌∙◌, ap}
use Rattle.sshc_key.specs.Signers.{SignCall}
use Rattle.sshc_agent_core.specs.declared.entry.Entry.{Entry}
use Rattle.sshc_agent_core.specs.AgentHistory.{IsEntry, signature_in}
use Rattle.sshc_agent_core.specs.AgentList.{AgentList}
use Rattle.sshc_agent_core.specs.ShapeLaws.{shown_step}
use Rattle.sshc_agent_core.specs.StepLaws.{step_permits}
use Rattle.sshc_agent_core.specs.SignedEntries.{IsSignedBy, SignaturesArePermitted}

signed_by : (before after : AgentList) (e : Entry) (gained : List SignCall) (signature : List ℕ) (is : IsEntry before e after) → is.gained ≡ gained → e.signature ≡ Some signature → IsSignedBy before e signature
signed_by before after e [] signature is none some = let clash : signature_in [] ≡ Some signature = sym (is.signature ∙ ap signature_in none) ∙ some in absurd cc
signed_by before after e (call ∷ calls) signature is gained some = record {
  call = call;
  answer = sym (is.signature ∙ ap signature_in gained) ∙ some;
  permitted = step_permits e.moment e.conn e.input before after is.gained e.output call calls (shown_step e.moment e.conn e.input before after is.gained e.output is.step) gained;
}

-- this holds in every history
pub signatures_permitted : (history : List Entry) → SignaturesArePermitted history
signatures_permitted history asks before after earlier later e signature cut leads is some = signed_by before after e is.gained signature is refl some
