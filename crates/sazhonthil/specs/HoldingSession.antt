-- What a struct of the caller's owns: nothing, or the box of a run.
use Rattle.std.specs.Prelude.{Option, Some, None}
use base.Fml.{Fml, ftrue}
use denote.RawPtr.{Ptr}
use Rattle.std.specs.Coded.{Coded, coded_option}
use Rattle.std.specs.Box.Ownership.{box_owns}
use Rattle.std.specs.declared.alloc.Global.{Global}
use Rattle.std.specs.contracts.impls.GlobalAllocator.TheImpl.{ghosts}
use Rattle.sazhonthil.specs.contracts.session_run.SessionRun.{the_row}

abbrev pub held_owns : Global → Ptr → Option the_row.Denot → Fml
held_owns alloc at None = ftrue
held_owns alloc at (Some x) = box_owns (ghosts.dealloc_token alloc) the_row at x

-- how a run is told apart from another where a proof stores it
abbrev pub run_coded : Coded (Option the_row.Denot)
run_coded = coded_option the_row.coded
