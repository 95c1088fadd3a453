-- A channel that the server opens, and what an agent reports, are told by their records' texts.
use Rattle.std.proofs.Common.{◌≡◌, ℕ, ◌<◌, ◌^◌, List, [], ◌∷◌, ◌++◌, Ok, refl, ap, ◌∙◌, append_assoc}
use Rattle.sshc_wire.specs.PartsLaws.{number32, strings}
use Rattle.sshc_wire.specs.Reads.{byte_at}
use Rattle.sshc_wire.specs.Records.{agent_text, open_text}
use Rattle.sshc_wire.specs.Wire.{IsShort, string_text, u32_text}
use Rattle.sshc_wire.specs.declared.channel_id.ChannelId.{ChannelId}
use Rattle.sshc_wire.specs.declared.message_type.MessageType.TheVariants as messages
use Rattle.sshc_wire.specs.declared.channel_record.ServerOpen.{ServerOpen}
use Rattle.sshc_wire.specs.declared.channel_record.ServerOpen.TheVariants as opens
use Rattle.sshc_wire.specs.declared.agent_record.AgentFault.TheVariants as faults
use Rattle.sshc_wire.specs.declared.agent_record.AgentRecord.{AgentRecord}
use Rattle.sshc_wire.specs.declared.agent_record.AgentRecord.TheVariants as agent
use Rattle.sshc_wire.specs.declared.record.Record.TheVariants.{Agent, ServerOpened}
use Rattle.sshc_wire.specs.Fitting.{FitsAgent, FitsOpen}
use Rattle.sshc_wire.specs.RecordReads.{answer_at, direct_tcpip_at, forwarded_tcpip_at, open_at, opened_at, x11_at}
use Rattle.sshc_wire.specs.Telling.{IsTold, record_of}
use Rattle.sshc_wire.proofs.TellingParts.{last_number, last_string}

-- ---- channels

direct : (host originator : List ℕ) (port from : ℕ) → IsShort host → port < 2 ^ 32 → IsShort originator → from < 2 ^ 32
    → direct_tcpip_at (string_text host ++ (u32_text port ++ (string_text originator ++ u32_text from))) ≡ Ok (opens.DirectTcpIp host port originator from, [])
unfolding direct_tcpip_at
direct host originator port from h p o f =
    rw (strings.again host (u32_text port ++ (string_text originator ++ u32_text from)) h, number32.again port (string_text originator ++ u32_text from) p, strings.again originator (u32_text from) o, last_number from f) refl

forwarded : (address originator : List ℕ) (port from : ℕ) → IsShort address → port < 2 ^ 32 → IsShort originator → from < 2 ^ 32
    → forwarded_tcpip_at (string_text address ++ (u32_text port ++ (string_text originator ++ u32_text from))) ≡ Ok (opens.ForwardedTcpIp address port originator from, [])
unfolding forwarded_tcpip_at
forwarded address originator port from h p o f =
    rw (strings.again address (u32_text port ++ (string_text originator ++ u32_text from)) h, number32.again port (string_text originator ++ u32_text from) p, strings.again originator (u32_text from) o, last_number from f) refl

four : (a b c d : List ℕ) → a ++ b ++ c ++ d ≡ a ++ (b ++ (c ++ d))
four a b c d = append_assoc (a ++ b) c d ∙ append_assoc a b (c ++ d)

open_told : (x : ServerOpen) → FitsOpen x → open_at (open_text x) ≡ Ok (x, [])
unfolding open_at open_text byte_at x11_at
open_told opens.Session fits = refl
open_told (opens.DirectTcpIp host port originator from) fits =
    ap direct_tcpip_at (four (string_text host) (u32_text port) (string_text originator) (u32_text from)) ∙ direct host originator port from fits.0 fits.1 fits.2 fits.3
open_told (opens.DirectStreamLocal path) fits = rw (last_string path fits) refl
open_told (opens.X11 originator from) fits = rw (strings.again originator (u32_text from) fits.0, last_number from fits.1) refl
open_told (opens.ForwardedTcpIp address port originator from) fits =
    ap forwarded_tcpip_at (four (string_text address) (u32_text port) (string_text originator) (u32_text from)) ∙ forwarded address originator port from fits.0 fits.1 fits.2 fits.3
open_told (opens.ForwardedStreamLocal path) fits = rw (last_string path fits) refl
open_told opens.AgentForward fits = refl
open_told opens.Unknown fits = refl

pub opened_told : (id : ChannelId) (x : ServerOpen) → id.0 < 2 ^ 32 → FitsOpen x → IsTold (ServerOpened id x)
unfolding record_of opened_at
opened_told id x small fits = rw (number32.again id.0 (open_text x) small, open_told x fits) refl

-- ---- agents

pub answer_told : (conn : ℕ) (x : AgentRecord) → conn < 2 ^ 32 → FitsAgent x → IsTold (Agent conn x)
unfolding record_of answer_at agent_text byte_at
answer_told conn (agent.Answer frame) small fits = rw (number32.again conn (string_text frame) small, last_string frame fits) refl
answer_told conn (agent.AskRequest messages.RequestKeys) small fits = rw (number32.again conn (0 ∷ []) small) refl
answer_told conn (agent.AskRequest messages.AddKeys) small fits = rw (number32.again conn (1 ∷ []) small) refl
answer_told conn (agent.AskRequest messages.RemoveKeys) small fits = rw (number32.again conn (2 ∷ []) small) refl
answer_told conn (agent.AskRequest messages.RemoveAllKeys) small fits = rw (number32.again conn (3 ∷ []) small) refl
answer_told conn (agent.AskRequest messages.Sign) small fits = rw (number32.again conn (4 ∷ []) small) refl
answer_told conn (agent.AskRequest messages.Lock) small fits = rw (number32.again conn (5 ∷ []) small) refl
answer_told conn (agent.AskRequest messages.Unlock) small fits = rw (number32.again conn (6 ∷ []) small) refl
answer_told conn (agent.AskKey key) small fits = rw (number32.again conn (string_text key) small, last_string key fits) refl
answer_told conn (agent.Closed faults.TooLong) small fits = rw (number32.again conn (1 ∷ []) small) refl
answer_told conn (agent.Closed faults.Unreadable) small fits = rw (number32.again conn (2 ∷ []) small) refl
answer_told conn (agent.Closed faults.SignerRefused) small fits = rw (number32.again conn (3 ∷ []) small) refl
