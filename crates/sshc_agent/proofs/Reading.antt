-- Bytes that are read piece by piece, and the inputs in their frames.
use Rattle.std.proofs.Common.{◌≡◌, ◌⊎◌, ℕ, Bool, true, false, List, [], ◌∷◌, ◌++◌, Option, Some, None, Result, Ok, Err, refl, sym, ap, subst, ◌∙◌}
use Rattle.std.specs.Prelude.{nat_lt, length}
use Rattle.std.specs.Int.{w32}
use Rattle.sshc_wire.specs.declared.error.NoMemory.{NoMemory}
use Rattle.sshc_wire.specs.declared.error.WireError.{WireError}
use Rattle.sshc_wire.specs.Contents.{IsAtEnd, prepend}
use Rattle.sshc_wire.specs.ContentsLaws.{prepend-nothing, prepend-prepend}
use Rattle.sshc_wire.specs.Faults.{Rose}
use Rattle.sshc_wire.specs.Reads.{number_at}
use Rattle.sshc_agent_core.specs.declared.input.AgentInput.{AgentInput}
use Rattle.sshc_key.specs.AgentNumbers.{MAX_AGENT_FRAME_LEN}
use Rattle.sshc_agent_core.specs.AgentFrames.{FrameBytes, framed_by, framed_in as given_in, next_in, pushed}
use Rattle.sshc_agent_core.specs.FrameLaws.{pushed_on}
use Rattle.std.proofs.lemmas.List.{append-nil}
use Rattle.sshc_agent.specs.Talk.{Fetches, ReadSoFar, ReadsMore, StreamSeen, framed}

abbrev Next : Type 0
Next = Option (AgentInput × FrameBytes)

is_some : (x y : AgentInput × FrameBytes) → Some x ≡ Some y → x ≡ y
is_some x y e = cc

-- an input from frames is a frame or a length above the limit
abbrev IsFramed : AgentInput → Type 0
IsFramed input = framed input ≡ input ∷ []

by_length : (over short : Bool) (n : ℕ) (rest : List ℕ) (x : AgentInput × FrameBytes) → framed_by over short n rest ≡ Some x → IsFramed x.0
by_length true short n rest x e = subst (λ (y : AgentInput × FrameBytes). IsFramed y.0) (is_some _ x e) refl
by_length false true n rest x e = cc
by_length false false n rest x e = subst (λ (y : AgentInput × FrameBytes). IsFramed y.0) (is_some _ x e) refl

by_number : (r : Result (ℕ × List ℕ) WireError) (x : AgentInput × FrameBytes) → given_in r ≡ Some x → IsFramed x.0
by_number (Err e) x is = cc
by_number (Ok n) x is = by_length (nat_lt MAX_AGENT_FRAME_LEN n.0) (nat_lt (length n.1) n.0) n.0 n.1 x is

by_over : (over : Bool) (bytes : List ℕ) (x : AgentInput × FrameBytes) → next_in (record { bytes = bytes; over = over }) ≡ Some x → IsFramed x.0
unfolding next_in
by_over true bytes x e = cc
by_over false bytes x e = by_number (number_at w32 bytes) x e

next_framed : (s : FrameBytes) (x : AgentInput × FrameBytes) → next_in s ≡ Some x → IsFramed x.0
next_framed s x e = by_over s.over s.bytes x e

pushed_nothing : (over : Bool) (bytes : List ℕ) → record { bytes = bytes; over = over } ≡ pushed (record { bytes = bytes; over = over }) []
pushed_nothing true bytes = refl
pushed_nothing false bytes = ap (λ (b : List ℕ). record { bytes = b; over = false }) (sym (append-nil bytes))

pub nothing_read : (frames : FrameBytes) (before : StreamSeen) → ReadSoFar frames frames before before
nothing_read frames before = record { given = []; read = sym (prepend-nothing before.left); kept = pushed_nothing frames.over frames.bytes }

pub read_on : (frames mid mid' frames' : FrameBytes) (before now after : StreamSeen) → ReadSoFar frames mid before now → mid' ≡ mid → ReadsMore mid' frames' now after (Ok true) → ReadSoFar frames frames' before after
read_on frames mid mid' frames' before now after so same (piece, left, is) =
    record {
      given = so.given ++ piece;
      read = so.read ∙ (ap (prepend so.given) left ∙ prepend-prepend so.given piece after.left);
      kept = is ∙ (ap (λ (s : FrameBytes). pushed s piece) (same ∙ so.kept) ∙ pushed_on frames so.given piece);
    }

pub found : (frames mid frames' : FrameBytes) (before now : StreamSeen) (input : AgentInput) → ReadSoFar frames mid before now → next_in mid ≡ Some (input, frames') → Fetches frames frames' before now (Ok (Some input))
found frames mid frames' before now input so next = (so.given, so.read, next_framed mid (input, frames') next, ap next_in (sym so.kept) ∙ next)

pub ended : (frames mid mid' frames' : FrameBytes) (before now after : StreamSeen) → now.read_faults ≡ before.read_faults → ReadSoFar frames mid before now → (next_in mid ≡ None) × (mid' ≡ mid) → ReadsMore mid' frames' now after (Ok false) → Fetches frames frames' before after (Ok None)
ended frames mid mid' frames' before now after same so (none, kept) (left, is, end) =
    (so.given, so.read ∙ ap (prepend so.given) left, is ∙ (kept ∙ so.kept), ap next_in (is ∙ kept) ∙ none, subst (λ (n : ℕ). Rose n after.read_faults ⊎ IsAtEnd after.left) same end)

pub starved_read : (frames mid mid' frames' : FrameBytes) (before now after : StreamSeen) (e : NoMemory) → ReadSoFar frames mid before now → ReadsMore mid' frames' now after (Err e) → Fetches frames frames' before after (Err e)
starved_read frames mid mid' frames' before now after e so (piece, left) = (so.given ++ piece, so.read ∙ (ap (prepend so.given) left ∙ prepend-prepend so.given piece after.left))
