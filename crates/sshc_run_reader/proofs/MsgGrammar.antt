-- Reading what is asked of a channel agrees with its grammar.
use Rattle.std.proofs.Common.{◌≡◌, ℕ, List, ◌++◌, Option, Some, None, Result, Ok, Err, refl, sym, ap, ◌∙◌}
use Rattle.sshc_wire.specs.Format.{chosen_at, made_at}
use Rattle.sshc_wire.specs.Grammar.{IsGrammar}
use Rattle.sshc_wire.specs.GrammarLaws.{in_row, made_of, tagged}
use Rattle.sshc_wire.specs.Reads.{Reader}
use Rattle.sshc_auth_event.specs.declared.channel_msg.ChannelMsg.{ChannelMsg}
use Rattle.sshc_auth_event.specs.declared.channel_msg.ChannelMsg.TheVariants as msgs
use Rattle.sshc_run_reader.specs.declared.channel_sort.ChannelSort.{ChannelSort}
use Rattle.sshc_run_reader.specs.declared.channel_sort.ChannelSort.TheVariants as channel_sorts
use Rattle.sshc_run_reader.specs.declared.error.EventError.{EventError}
use Rattle.sshc_run_reader.specs.declared.error.EventError.TheVariants.{Bad}
use Rattle.sshc_run_reader.specs.EventParts.{channel_sort_at}
use Rattle.sshc_run_reader.specs.EventFields.{channel_sort, IsSort, IsMsgFields, IsChannelMsg}
use Rattle.sshc_run_reader.specs.EventReading.{pty_at, window_change_at, x11_at, env_at, msg_fields_at, msg_at}
use Rattle.sshc_run_reader.proofs.EventGrammar.{parts, ReadsOne, one_made, one_of, self, one_alone, Sorted, made_sorted, by_sort}
open parts use {a_string, a_text, a_u32, a_flag, a_channel_sort, some_modes, a_size}

-- a message of no sort isn't read
abbrev fields_at : Option ChannelSort → Reader EventError ChannelMsg
fields_at None bytes = Err Bad
fields_at (Some sort) bytes = msg_fields_at sort bytes

msg_sorted : (sort : Option ChannelSort) (bytes : List ℕ) → Sorted channel_sort sort (fields_at sort bytes)
unfolding pty_at window_change_at x11_at env_at
msg_sorted None bytes = tt
msg_sorted (Some channel_sorts.Eof) bytes = refl
msg_sorted (Some channel_sorts.Close) bytes = refl
msg_sorted (Some sort) bytes = made_sorted _ _ _ _ (λ a. refl)

msg_read : (m : ChannelMsg) → ReadsOne (IsMsgFields m) (fields_at (channel_sort m)) m
unfolding pty_at window_change_at x11_at env_at
msg_read (msgs.Data body) = one_of _ IsMsgFields body (λ a b. self) a_string
msg_read (msgs.ExtendedData ext body) = one_of _ IsMsgFields (ext, body) (λ a b. self) (in_row a_u32 a_string)
msg_read msgs.Eof = one_alone _
msg_read msgs.Close = one_alone _
msg_read (msgs.RequestPty reply term cols rows width height modes) =
    one_of _ IsMsgFields (reply, (term, ((cols, (rows, (width, height))), modes))) (λ a b. self)
    (in_row a_flag (in_row a_text (in_row a_size some_modes)))
msg_read (msgs.WindowChange cols rows width height) =
    one_of _ IsMsgFields (cols, (rows, (width, height))) (λ a b. self) a_size
msg_read (msgs.RequestX11 reply single protocol cookie screen) =
    one_of _ IsMsgFields (reply, (single, (protocol, (cookie, screen)))) (λ a b. self)
    (in_row a_flag (in_row a_flag (in_row a_text (in_row a_text a_u32))))
msg_read (msgs.SetEnv reply name value) =
    one_of _ IsMsgFields (reply, (name, value)) (λ a b. self) (in_row a_flag (in_row a_text a_text))
msg_read (msgs.RequestShell reply) = one_of _ IsMsgFields reply (λ a b. self) a_flag
msg_read (msgs.Exec reply command) = one_of _ IsMsgFields (reply, command) (λ a b. self) (in_row a_flag a_string)
msg_read (msgs.Signal signal) =
    one_made _ IsMsgFields _ (λ a b h. (a, h, refl)) (λ b h. (h.0, ap (λ s. msgs.Signal s) h.2, h.1)) a_text
msg_read (msgs.RequestSubsystem reply name) = one_of _ IsMsgFields (reply, name) (λ a b. self) (in_row a_flag a_text)
msg_read (msgs.AgentForward reply) = one_of _ IsMsgFields reply (λ a b. self) a_flag
msg_read m = record { takes = λ bytes rest fits e. absurd cc; again = λ front rest h. absurd h }

sort_back : (sort : Option ChannelSort) (bytes : List ℕ) → IsSort sort bytes →
    (s : ChannelSort) × (Some s ≡ sort) × IsSort (Some s) bytes
sort_back None bytes h = absurd h
sort_back (Some s) bytes h = (s, refl, h)

some_sort : (r : Result (ChannelSort × List ℕ) EventError) (bytes : List ℕ) →
    chosen_at (λ b. r) msg_fields_at bytes ≡ chosen_at (made_at (λ s. Some s) (λ b. r)) fields_at bytes
some_sort (Ok x) bytes = refl
some_sort (Err e) bytes = refl

pub a_msg : IsGrammar IsChannelMsg msg_at
unfolding msg_at
a_msg = record {
  takes = λ bytes m rest fits e. by_tag.takes bytes m rest fits (sym (some_sort (channel_sort_at bytes) bytes) ∙ e);
  again = λ m front rest h. some_sort (channel_sort_at (front ++ rest)) (front ++ rest) ∙ by_tag.again m front rest h;
}
  where
    by_tag : IsGrammar IsChannelMsg (chosen_at (made_at (λ s. Some s) channel_sort_at) fields_at)
    by_tag = tagged channel_sort (made_of (λ s. Some s) IsSort (λ s bytes h. h) sort_back a_channel_sort)
        (by_sort channel_sort fields_at msg_sorted msg_read)
