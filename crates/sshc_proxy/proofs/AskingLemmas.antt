-- What a run of a proxy does with its agent, from one action to the next, and to its end.
use Rattle.std.proofs.Common.{ℕ, true, false, List, [], ◌++◌, Ok, Err, refl, sym, inl, inr, arith}
use Rattle.std.proofs.lemmas.List.{append-nil}
use Rattle.sshc_wire.specs.declared.source.Failed.{Failed}
use Rattle.sshc_wire.specs.declared.source.Failed.TheVariants as failures
use Rattle.sshc_wire.specs.Wire.{string_text, u32_text}
use Rattle.sshc_proxy.specs.declared.broken.Broken.{Broken}
use Rattle.sshc_proxy.specs.declared.broken.Broken.TheVariants as broken
use Rattle.sshc_proxy.specs.declared.error.ProxyError.TheVariants as errors
use Rattle.sshc_proxy.specs.Frames.{Breaks, ReadsFrame, Stream, WritesFrame}
use Rattle.sshc_proxy.specs.ProxyTable.{Proxy}
use Rattle.sshc_proxy.specs.ProxyRun.{Streams, Terms, forward_bytes, from_agent, in_answer, in_request, long_answer, streams, to_agent}
use Rattle.sshc_proxy.specs.Relaying.{Relaying, Turned, asking, awaiting, heard, reading_error, writing_error}
use Rattle.sshc_proxy.proofs.RelayLemmas.{ends_more, stops}
use Rattle.sshc_proxy.proofs.TransferLemmas.{read_faulted, read_on, read_same, unfaulted, write_faulted, written_on, written_same}

module _ (terms : Terms) (before mid : Streams) (core : Proxy) where
  -- ---- a request to the agent

  pub asked : (agent : Stream) (frame : List ℕ) → Relaying terms before mid core (asking frame) → WritesFrame frame mid.agent agent (Ok tt) → Relaying terms before (streams mid.client agent) core awaiting
  asked agent frame r written = record {
    steps = r.steps;
    knows = r.knows;
    policy = r.policy;
    order = r.order;
    fed = r.fed;
    at = r.at.0;
    client = r.client;
    agent = written_on (from_agent r.steps ++ []) (to_agent r.steps) frame frame [] before.agent mid.agent agent r.agent (sym (append-nil frame)) written.left written.held;
    client_faults = r.client_faults;
    agent_faults = written_same frame before.agent mid.agent agent r.agent_faults written;
  }

  pub request_cut : (agent : Stream) (frame : List ℕ) (failed : Failed) → Relaying terms before mid core (asking frame) → WritesFrame frame mid.agent agent (Err failed)
      → Turned terms before (streams mid.client agent) core (Err (writing_error errors.AgentFault failed))
  request_cut agent frame failures.Fault r (front, rest, is, written) =
      stops terms before mid (streams mid.client agent) core (asking frame) (in_request rest) (Err errors.AgentFault) r r.client
      (written_on (from_agent r.steps ++ []) (to_agent r.steps) frame front rest before.agent mid.agent agent r.agent is written.left written.held)
      (ends_more forward_bytes frame front rest r.steps r.at.1 is, inr refl)
      (unfaulted errors.ClientFault before.client mid.client (Err errors.AgentFault) (λ e. absurd cc) r.client_faults)
      (write_faulted errors.AgentFault front before.agent mid.agent agent r.agent_faults written)
  request_cut agent frame failures.NoMemory r (front, rest, is, written) =
      stops terms before mid (streams mid.client agent) core (asking frame) (in_request rest) (Err errors.NoMemory) r r.client
      (written_on (from_agent r.steps ++ []) (to_agent r.steps) frame front rest before.agent mid.agent agent r.agent is written.left written.held)
      (ends_more forward_bytes frame front rest r.steps r.at.1 is, inl refl)
      (unfaulted errors.ClientFault before.client mid.client (Err errors.NoMemory) (λ e. absurd cc) r.client_faults)
      (unfaulted errors.AgentFault before.agent agent (Err errors.NoMemory) (λ e. absurd cc) (written_same front before.agent mid.agent agent r.agent_faults written))

  -- ---- an answer of the agent

  pub answer_read : (agent : Stream) (answer : List ℕ) → Relaying terms before mid core awaiting → ReadsFrame answer mid.agent agent (Ok true) → Relaying terms before (streams mid.client agent) core (heard answer)
  answer_read agent answer r (small, read) = record {
    steps = r.steps;
    knows = r.knows;
    policy = r.policy;
    order = r.order;
    fed = r.fed;
    at = (r.at, small);
    client = r.client;
    agent = read_on (from_agent r.steps) (to_agent r.steps) [] (string_text answer) before.agent mid.agent agent r.agent read.left read.held;
    client_faults = r.client_faults;
    agent_faults = read_same (string_text answer) before.agent mid.agent agent r.agent_faults read;
  }

  -- the agent's bytes ended before its answer
  pub agent_ended : (agent : Stream) (answer : List ℕ) → Relaying terms before mid core awaiting → ReadsFrame answer mid.agent agent (Ok false) → Turned terms before (streams mid.client agent) core (Err errors.UnexpectedEnd)
  agent_ended agent answer r (read, end) =
      stops terms before mid (streams mid.client agent) core awaiting (in_answer []) (Err errors.UnexpectedEnd) r r.client
      (read_on (from_agent r.steps) (to_agent r.steps) [] [] before.agent mid.agent agent r.agent read.left read.held) (r.at, inl (omega arith), inr (refl, end))
      (unfaulted errors.ClientFault before.client mid.client (Err errors.UnexpectedEnd) (λ e. absurd cc) r.client_faults)
      (unfaulted errors.AgentFault before.agent agent (Err errors.UnexpectedEnd) (λ e. absurd cc) (read_same [] before.agent mid.agent agent r.agent_faults read))

  pub agent_broken : (agent : Stream) (b : Broken) → Relaying terms before mid core awaiting → Breaks b mid.agent agent → Turned terms before (streams mid.client agent) core (Err (reading_error errors.AgentFault b))
  agent_broken agent broken.TooLong r (n, long, read) =
      stops terms before mid (streams mid.client agent) core awaiting (long_answer n) (Err errors.TooLong) r r.client
      (read_on (from_agent r.steps) (to_agent r.steps) [] (u32_text n) before.agent mid.agent agent r.agent read.left read.held) (r.at, long, refl)
      (unfaulted errors.ClientFault before.client mid.client (Err errors.TooLong) (λ e. absurd cc) r.client_faults)
      (unfaulted errors.AgentFault before.agent agent (Err errors.TooLong) (λ e. absurd cc) (read_same (u32_text n) before.agent mid.agent agent r.agent_faults read))
  agent_broken agent broken.UnexpectedEnd r (given, cut, some, read, end) =
      stops terms before mid (streams mid.client agent) core awaiting (in_answer given) (Err errors.UnexpectedEnd) r r.client
      (read_on (from_agent r.steps) (to_agent r.steps) [] given before.agent mid.agent agent r.agent read.left read.held) (r.at, cut, inr (refl, end))
      (unfaulted errors.ClientFault before.client mid.client (Err errors.UnexpectedEnd) (λ e. absurd cc) r.client_faults)
      (unfaulted errors.AgentFault before.agent agent (Err errors.UnexpectedEnd) (λ e. absurd cc) (read_same given before.agent mid.agent agent r.agent_faults read))
  agent_broken agent broken.Fault r (given, cut, read) =
      stops terms before mid (streams mid.client agent) core awaiting (in_answer given) (Err errors.AgentFault) r r.client
      (read_on (from_agent r.steps) (to_agent r.steps) [] given before.agent mid.agent agent r.agent read.left read.held) (r.at, cut, inl (inr refl))
      (unfaulted errors.ClientFault before.client mid.client (Err errors.AgentFault) (λ e. absurd cc) r.client_faults)
      (read_faulted errors.AgentFault given before.agent mid.agent agent r.agent_faults read)
  agent_broken agent broken.NoMemory r (given, cut, read) =
      stops terms before mid (streams mid.client agent) core awaiting (in_answer given) (Err errors.NoMemory) r r.client
      (read_on (from_agent r.steps) (to_agent r.steps) [] given before.agent mid.agent agent r.agent read.left read.held) (r.at, cut, inl (inl refl))
      (unfaulted errors.ClientFault before.client mid.client (Err errors.NoMemory) (λ e. absurd cc) r.client_faults)
      (unfaulted errors.AgentFault before.agent agent (Err errors.NoMemory) (λ e. absurd cc) (read_same given before.agent mid.agent agent r.agent_faults read))
