-- What a user asks of a channel, by its number in an event.
-- A number for each sort, and the sort of a number as its inverse, which a law says.
use Rattle.std.proofs.Common.{ℕ, Option, Some, None, ◌==◌, if◌then◌else◌}
use Rattle.sshc_run_reader.specs.declared.channel_sort.ChannelSort.{ChannelSort}
use Rattle.sshc_run_reader.specs.declared.channel_sort.ChannelSort.TheVariants.{Data, ExtendedData, Eof, Close, RequestPty, WindowChange, RequestX11, SetEnv, RequestShell, Exec, Signal, RequestSubsystem, AgentForward}

abbrev pub channel_sort_number : ChannelSort → ℕ
channel_sort_number Data = 0
channel_sort_number ExtendedData = 1
channel_sort_number Eof = 2
channel_sort_number Close = 3
channel_sort_number RequestPty = 4
channel_sort_number WindowChange = 5
channel_sort_number RequestX11 = 6
channel_sort_number SetEnv = 7
channel_sort_number RequestShell = 8
channel_sort_number Exec = 9
channel_sort_number Signal = 10
channel_sort_number RequestSubsystem = 11
channel_sort_number AgentForward = 12

abbrev pub channel_sort_numbered : ℕ → Option ChannelSort
channel_sort_numbered n =
    if n == 0 then Some Data
    else (if n == 1 then Some ExtendedData
    else (if n == 2 then Some Eof
    else (if n == 3 then Some Close
    else (if n == 4 then Some RequestPty
    else (if n == 5 then Some WindowChange
    else (if n == 6 then Some RequestX11
    else (if n == 7 then Some SetEnv
    else (if n == 8 then Some RequestShell
    else (if n == 9 then Some Exec
    else (if n == 10 then Some Signal
    else (if n == 11 then Some RequestSubsystem
    else (if n == 12 then Some AgentForward else None))))))))))))
