-- What the opening remembers between two events, as plain data. The code keeps an allocator besides.
use Rattle.std.specs.Prelude.{ℕ, Bool, true, false, List, [], Option, None}
use Rattle.sshc_wire.specs.declared.ticket.Ticket.{Ticket}
use Rattle.sshc_transport.specs.declared.exchange.ExchangeFlag.{ExchangeFlag}
use Rattle.sshc_transport.specs.declared.exchange.ExchangeFlag.TheVariants.{Ours}
use Rattle.sshc_transport.specs.declared.exchange.ExchangeKey.{ExchangeKey}
use Rattle.sshc_transport.specs.declared.exchange.ExchangeKey.TheVariants.{Missing}
use Rattle.sshc_auth_event.specs.declared.method.Method.{Method}
use Rattle.sshc_auth_event.specs.declared.method.Method.TheVariants as methods
use Rattle.sshc_auth.specs.declared.opening.Class.{Class}
use Rattle.sshc_auth.specs.declared.opening.Class.TheVariants as classes
use Rattle.sshc_auth.specs.declared.opening.Phase.{Phase}
use Rattle.sshc_auth.specs.declared.opening.Phase.TheVariants as phases
use Rattle.sshc_auth.specs.declared.opening.Settings.{Settings}
use Rattle.sshc_auth.specs.declared.opening.Waiter.{Waiter}

pub record OpeningState : Type 0 where
  pub settings : Settings
  pub phase : Phase
  pub flag : ExchangeFlag
  -- the first exchange's hash, and its host key
  pub session_id : List ℕ
  pub host_key : ExchangeKey
  -- SERVICE_REQUEST was written
  pub requested : Bool
  -- the user of the last request to authenticate, and its method until the server has answered it
  pub user : List ℕ
  pub method : Option Method
  -- of the last request that was written
  pub class : Class
  pub ticket : Ticket
  -- how many EXT_INFO came, the signature names of the last `server-sig-algs`, the names of extensions, and who waits
  -- for one
  pub ext_infos : ℕ
  pub sig_algs : Option (List (List ℕ))
  pub seen : List (List ℕ)
  pub waiters : List Waiter
  -- bytes of packets that came while an exchange of ours runs
  pub counted : ℕ
  -- the bytes that were handed out to be signed
  pub handed : List ℕ
  -- an earlier step opened, ended or refused the session
  pub closed : Bool

-- no ticket
abbrev pub no_ticket : Ticket
no_ticket = record { 0 = 0 }

-- at the start a first exchange of ours runs
abbrev pub start : Settings → OpeningState
start settings = record {
  settings = settings;
  phase = phases.Exchanging;
  flag = Ours;
  session_id = [];
  host_key = Missing;
  requested = false;
  user = [];
  method = None;
  class = classes.Plain;
  ticket = no_ticket;
  ext_infos = 0;
  sig_algs = None;
  seen = [];
  waiters = [];
  counted = 0;
  handed = [];
  closed = false;
}

-- each later step returns `Closed`
abbrev pub shut : OpeningState → OpeningState
shut s = record s { closed = true }

-- an answer of the user is awaited
abbrev pub is_awaiting : Phase → Bool
is_awaiting phases.AwaitResponses = true
is_awaiting phases.AwaitSignature = true
is_awaiting phase = false

-- the class of a method, which says what packet 60 means (RFC 4252, section 7; RFC 4256, section 3.2; RFC 4462, section
-- 3.3)
abbrev pub class_of : Method → Class
class_of methods.None = classes.Plain
class_of (methods.Password password) = classes.Plain
class_of (methods.KeyboardInteractive submethods) = classes.Prompts
class_of (methods.GssapiWithMic oids) = classes.Gssapi
class_of method = classes.Key
