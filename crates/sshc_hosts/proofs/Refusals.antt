-- From the errors of the definitions to those of the code: which errors the calls that read and judge return.
use Rattle.std.proofs.Common.{Result, Ok, Err, IfErr, subst}
use Rattle.sshc_key.specs.Gives.{Fails, GivesAll}
use Rattle.sshc_key.specs.declared.error.Error.{Error}
use Rattle.sshc_key.specs.declared.error.Error.TheVariants.{NoMemory}

error_by : {Y : Type 0} (P : Error → Type 0) (e : Error) (outcome : Result Y Error) → P NoMemory → Fails e outcome → IfErr outcome P → P e
error_by P NoMemory outcome free h k = free
error_by P e outcome free h k = subst (λ (r : Result _ Error). IfErr r P) h k

pub errors_by : {X Y : Type 0} (P : Error → Type 0) (view : X → Y) (result : Result X Error) (outcome : Result Y Error)
    → P NoMemory → GivesAll view result outcome → IfErr outcome P → IfErr result P
errors_by P view (Ok x) outcome free h k = tt
errors_by P view (Err e) outcome free h k = error_by P e outcome free h k
