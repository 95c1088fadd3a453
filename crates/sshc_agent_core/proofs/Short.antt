-- How many bytes a step's answer has, by cases on what it did.
use Rattle.std.proofs.Common.{◌≡◌, ℕ, ◌≤◌, List, [], ◌∷◌, length, Option, Some, None, refl, ap, subst, arith, lit≤}
use Rattle.std.specs.Prelude.{max}
use Rattle.sshc_wire.specs.Wire.{string_text}
use Rattle.sshc_key.specs.Signers.{SignCall}
use Rattle.sshc_key.specs.Asking.{call_of}
use Rattle.sshc_agent_core.specs.declared.input.AgentInput.{AgentInput}
use Rattle.sshc_agent_core.specs.declared.input.AgentOutput.{AgentOutput}
use Rattle.sshc_agent_core.specs.declared.input.AgentOutput.TheVariants as outputs
use Rattle.sshc_agent_core.specs.AgentList.{AgentList}
use Rattle.sshc_agent_core.specs.AgentTable.{Steps}
use Rattle.sshc_agent_core.specs.AnswerBytes.{answer_bytes}
use Rattle.sshc_agent_core.specs.KeyList.{AreListable, listing}
use Rattle.sshc_agent_core.specs.ShapeLaws.{step_does}
use Rattle.sshc_agent_core.specs.SignerLists.{AreShort}
use Rattle.sshc_agent_core.specs.StepShape.{IsEnd, Made, Says, StepDoes, begun}
use Rattle.sshc_agent_core.specs.Turn.{frame}
use Rattle.sshc_agent_core.proofs.Listable.{held_listed, length-string_text, listing_short, unexpired_listable}

framed : (output : AgentOutput) (body : List ℕ) → output ≡ frame body → length body ≤ 262144 → answer_bytes output ≤ 262148
framed output body is few = omega (arith, ap answer_bytes is, few, length-string_text body)

no_bytes : (output other : AgentOutput) → output ≡ other → answer_bytes other ≡ 0 → answer_bytes output ≤ 262148
no_bytes output other is none = omega (arith, ap answer_bytes is, none)

end_short : (output : AgentOutput) → IsEnd output → answer_bytes output ≤ 262148
end_short (outputs.Answer whole) never = absurd never
end_short (outputs.AskRequest message) never = absurd never
end_short (outputs.AskKey blob) never = absurd never
end_short outputs.Nothing ends = omega arith
end_short (outputs.Closed cause) ends = omega arith

says_short : (l : AgentList) (whole : List ℕ) (next : AgentList) (output : AgentOutput) → AreListable l.keys → Says l whole next output → answer_bytes output ≤ 262148
says_short l whole next output fits (Says.fails is said) = framed output (5 ∷ []) said (lit≤ tt)
says_short l whole next output fits (Says.lists unlocked is said) = framed output (listing l.keys) said (listing_short l.keys fits)
says_short l whole next output fits (Says.closes is said) = no_bytes output _ said refl
says_short l whole next output fits (Says.asks_request message is said) = no_bytes output _ said refl
says_short l whole next output fits (Says.asks_key blob key unlocked there is said) = omega (arith, ap answer_bytes said, fits, held_listed l.keys blob key there)
says_short l whole next output fits (Says.changes change said) = framed output (6 ∷ []) said (lit≤ tt)

signed_short : (output : AgentOutput) (signature : List ℕ) → output ≡ frame (14 ∷ string_text signature) → length signature ≤ 65536 → answer_bytes output ≤ 262148
signed_short output signature said few = framed output (14 ∷ string_text signature) said (omega (arith, few, length-string_text signature))

made_short : (now conn : ℕ) (input : AgentInput) (before after : AgentList) (gained : List SignCall) (output : AgentOutput) → Made now conn input before after gained output → AreListable before.keys → AreShort gained → answer_bytes output ≤ 262148
made_short now conn input before after gained output (Made.passed none is said) fits short = no_bytes output _ said refl
made_short now conn input before after gained output (Made.ended none is ends) fits short = end_short output ends
made_short now conn input before after gained output (Made.answered none whole next stands request says is) fits short =
    says_short (begun now conn before) whole next output (unexpired_listable (max before.latest now) before.keys fits) says
made_short now conn input before after gained output (Made.signed q signature one may is said) fits short =
    signed_short output signature said (subst (λ (g : List SignCall). AreShort g) one short).0
made_short now conn input before after gained output (Made.refused q one may is said) fits short = no_bytes output _ said refl

-- a step's answer
pub step_short : (now conn : ℕ) (input : AgentInput) (before after : AgentList) (gained : List SignCall) (output : AgentOutput) → Steps now conn input before after gained output → AreListable before.keys → AreShort gained
    → answer_bytes output ≤ 262148
step_short now conn input before after gained output steps fits short = by (step_does now conn input before after gained output steps)
  where
    by : StepDoes now conn input before after gained output → answer_bytes output ≤ 262148
    by (StepDoes.made made) = made_short now conn input before after gained output made fits short
    by (StepDoes.starves cut is said) = no_bytes output _ said refl
