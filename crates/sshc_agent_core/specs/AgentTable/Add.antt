-- 17 and 25, ADD_IDENTITY and ADD_ID_CONSTRAINED (draft-miller-ssh-agent, sections 3.2 and 3.2.7): the pair, a comment,
-- and for 25 constraints up to the end.
use Rattle.std.specs.Prelude.{ℕ, Bool, true, false, List, [], ◌∷◌, Option, Some, None, Result, Ok, Err, ◌==◌, if◌then◌else◌}
use Rattle.std.specs.Int.{w32}
use Rattle.sshc_wire.specs.declared.error.WireError.{WireError}
use Rattle.sshc_wire.specs.declared.error.WireError.TheVariants.{Short}
use Rattle.sshc_wire.specs.Format.{made_at}
use Rattle.sshc_wire.specs.Reads.{Reader, byte_at, number_at, text_at, ◌>>=◌}
use Rattle.sshc_wire.specs.Whole.{all_at}
use Rattle.sshc_key.specs.declared.error.Error.{Error}
use Rattle.sshc_key.specs.KeyGrammar.{key_text}
use Rattle.sshc_key.specs.PairCode.{KeyPair}
use Rattle.sshc_key.specs.PairGrammar.{key_pair, pair_at}
use Rattle.sshc_agent_core.specs.declared.constraints.Constraints.{Constraints}
use Rattle.sshc_key.specs.AgentNumbers.{CONSTRAIN_LIFETIME, CONSTRAIN_CONFIRM}
use Rattle.sshc_agent_core.specs.declared.key_list.HeldKey.{HeldKey}
use Rattle.sshc_agent_core.specs.AgentList.{AgentList}
use Rattle.sshc_agent_core.specs.KeyList.{deadline_of, has_room, with_key}
use Rattle.sshc_agent_core.specs.Turn.{Turn, fails, succeeds}

-- ---- constraints

-- one constraint: a lifetime in seconds, or None for a confirmation
abbrev pub by_kind : ℕ → List ℕ → Result (Option ℕ × List ℕ) WireError
by_kind kind rest =
    if kind == CONSTRAIN_LIFETIME then (number_at w32 rest >>= λ seconds. Ok (Some seconds.0, seconds.1))
    else (if kind == CONSTRAIN_CONFIRM then Ok (None, rest) else Err Short)

unfoldable pub constraint_at : Reader WireError (Option ℕ)
constraint_at bytes = byte_at bytes >>= λ kind. by_kind kind.0 kind.1

abbrev pub unconstrained : Constraints
unconstrained = record { lifetime = None; confirm = false }

-- a second lifetime is refused
abbrev pub with_lifetime : Option ℕ → ℕ → Constraints → Option Constraints
with_lifetime None seconds c = Some (record c { lifetime = Some seconds })
with_lifetime (Some earlier) seconds c = None

-- one more constraint; a second confirmation changes nothing
abbrev pub with_one : Constraints → Option ℕ → Option Constraints
with_one c None = Some (record c { confirm = true })
with_one c (Some seconds) = with_lifetime c.lifetime seconds c

abbrev pub and_so : Option Constraints → (Constraints → Option Constraints) → Option Constraints
and_so None f = None
and_so (Some c) f = f c

-- one after the other
abbrev pub kept_of : List (Option ℕ) → Constraints → Option Constraints
kept_of [] c = Some c
kept_of (one ∷ more) c = and_so (with_one c one) (kept_of more)

abbrev pub kept_in : Result (List (Option ℕ)) WireError → Constraints → Option Constraints
kept_in (Err e) c = None
kept_in (Ok found) c = kept_of found c

-- the constraints that the bytes hold, up to their end; None if they can't be read or hold two lifetimes
abbrev pub constraints_in : List ℕ → Option Constraints
constraints_in bytes = kept_in (all_at constraint_at bytes) unconstrained

-- ---- the row

-- the key is held from now on, unless the listing would get too long
abbrev pub keyed_turn : HeldKey → AgentList → Turn
keyed_turn key l = if has_room l.keys key.blob then succeeds (record l { keys = with_key l.keys key }) else fails l

-- the pair is held under these constraints
abbrev pub added_turn : Option Constraints → KeyPair → AgentList → Turn
added_turn None pair l = fails l
added_turn (Some c) pair l = keyed_turn (record { blob = key_text pair.public.0; pair = pair; deadline = deadline_of l.latest c.lifetime; constraints = c }) l

abbrev pub commented_turn : Bool → Result (List ℕ × List ℕ) WireError → KeyPair → AgentList → Turn
commented_turn constrained (Err e) pair l = fails l
commented_turn constrained (Ok comment) pair l = added_turn (if constrained then constraints_in comment.1 else Some unconstrained) pair l

abbrev pub pair_turn : Bool → Result (KeyPair × List ℕ) Error → AgentList → Turn
pair_turn constrained (Err e) l = fails l
pair_turn constrained (Ok pair) l = commented_turn constrained (text_at pair.1) pair.0 l

unfoldable pub add_turn : Bool → List ℕ → AgentList → Turn
add_turn constrained body l = pair_turn constrained (made_at key_pair pair_at body) l
