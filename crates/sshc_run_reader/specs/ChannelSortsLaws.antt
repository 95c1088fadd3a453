-- Laws of the definitions in specs/ChannelSorts.antt.
use Rattle.std.proofs.Common.{◌≡◌, ℕ, Some, refl, arith}
use Rattle.std.proofs.lemmas.Bool.Decides.{nat_tests}
use Rattle.sshc_run_reader.specs.declared.channel_sort.ChannelSort.{ChannelSort}
use Rattle.sshc_run_reader.specs.declared.channel_sort.ChannelSort.TheVariants.{Data}
use Rattle.sshc_run_reader.specs.ChannelSorts.{channel_sort_number, channel_sort_numbered}

pub channel_sort_again : (s : ChannelSort) → channel_sort_numbered (channel_sort_number s) ≡ Some s
channel_sort_again Data = refl
channel_sort_again s = refl

pub channel_sort_is : (n : ℕ) (s : ChannelSort) → channel_sort_numbered n ≡ Some s → channel_sort_number s ≡ n
channel_sort_is n s h = grind (arith, nat_tests)
