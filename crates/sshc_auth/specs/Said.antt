-- What a server says to a user who logs in, apart from how its packets are written.
use Rattle.std.specs.Prelude.{ℕ, Bool, List}
use Rattle.sshc_wire.specs.declared.auth_record.GssapiRecord.{GssapiRecord}
use Rattle.sshc_wire.specs.declared.auth_record.Prompt.{Prompt}
use Rattle.sshc_wire.specs.declared.methods.MethodKind.{MethodKind}
use Rattle.sshc_auth.specs.declared.extension.Extension.{Extension}

pub data Said : Type 0 where
  -- the methods that can continue, and whether the login was a partial success
  failure : List MethodKind → Bool → Said
  success : Said
  banner : List ℕ → Said
  -- a name, instructions, and the prompts
  prompts : List ℕ → List ℕ → List Prompt → Said
  -- a step of GSSAPI
  step : GssapiRecord → Said
  extensions : List Extension → Said
