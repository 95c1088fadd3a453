-- The parts of messages that a handle's calls make of their arguments.
use Rattle.std.specs.Prelude.{ℕ, List, [], Option, Some}
use Rattle.sshc_wire.specs.declared.ticket.Ticket.{Ticket}
use Rattle.sshc_key.specs.KeyGrammar.{Key}
use Rattle.sshc_key.specs.declared.agent.AgentIdentity.{AgentIdentity}
use Rattle.sshc_key.specs.declared.agent.AgentIdentity.TheVariants as identities

-- an answer is asked for; the submission assigns the ticket
abbrev pub asked_ticket : Option Ticket
asked_ticket = Some (record { 0 = 0 })

-- a key or a certificate as a signer knows it, without a comment
abbrev pub identity_of_key : Key × List ℕ → AgentIdentity
identity_of_key key = identities.PublicKey key []

abbrev pub identity_of_certificate : Key → AgentIdentity
identity_of_certificate cert = identities.Certificate cert []
