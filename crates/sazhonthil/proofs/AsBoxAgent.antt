-- What a `HeldAgent` has is owned as a box at the same types owns it.
use mir.Syntax.{impl, tnil, dnil}
use mathlib.Core.List.{[]}
use denote.Signature.{Slot, plain}
use Rattle.std.proofs.BoxSteps.Form.{Bx}
use Rattle.std.specs.contracts.alloc.Global as Heap
use Rattle.std.specs.contracts.impls.GlobalAllocator.TheImpl.{ghosts, dict}
use Rattle.std.proofs.alloc.Global.TheLaws as heap
use Rattle.sshc_c_calls.specs.contracts.agent.AgentRun as AgentRun
use Rattle.sshc_c_calls.proofs.agent.AgentRun.TheLaws as run
use Rattle.sazhonthil.specs.contracts.parts.Parts as Parts
use Rattle.sazhonthil.specs.contracts.held_agent.HeldAgent as HeldAgent

abbrev pub E : Bx
E = record { row = AgentRun.the_row; laws = run.the_row_laws; al = record { row = Heap.the_row; laws = heap.the_row_laws; g = ghosts; d = dict; drops = impl [] tnil dnil } }

abbrev pub FromParts : Slot 0
FromParts = plain (λ _. Parts.the_row AgentRun.the_row Heap.the_row ghosts)

abbrev pub FromHeld : Slot 0
FromHeld = plain (λ _. HeldAgent.the_row)
