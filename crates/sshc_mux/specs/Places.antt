-- Where the code keeps the channels: each in a slot, in the order in which they were opened, with the slot of each
-- number and a count of those on which bytes wait. The slot of a channel that was removed is empty until the empty
-- slots are removed.
use Rattle.std.specs.Prelude.{◌≡◌, ℕ, ◌+◌, Bool, false, ◌||◌, ◌==◌, List, [], ◌∷◌, length, Option, Some, None, is_some, MatchOption, slice_index_or, slice_set, nat_eq, if◌then◌else◌}
use Rattle.std.specs.Map.{lookup}
use Rattle.sshc_mux.specs.ChannelState.{ChannelState, channel_of, with_channel, without}
use Rattle.sshc_mux.specs.ChannelTable.{flush_turn, waits}

-- slots in the order of their making, of which some are empty
abbrev pub Slots : Type 0
Slots = List (Option ChannelState)

-- the channels in the slots
abbrev pub present : Slots → List ChannelState
present [] = []
present (None ∷ slots) = present slots
present (Some c ∷ slots) = c ∷ present slots

-- the channel of this number is in this slot
pub record IsPlace (n : ℕ) (slots : Slots) (at : ℕ) : Type 0 where
  pub channel : ChannelState
  pub here : slice_index_or slots at None ≡ Some channel
  pub number : channel.head.number ≡ n
  pub found : channel_of n (present slots) ≡ Some channel
  pub put : (new : ChannelState) → with_channel n new (present slots) ≡ present (slice_set slots at (Some new))
  pub gone : without n (present slots) ≡ present (slice_set slots at None)

-- each number's slot
pub record IsIndexed (index : List (ℕ × ℕ)) (slots : Slots) : Type 0 where
  pub places :
      (n : ℕ) → MatchOption (lookup (nat_eq n) index) (channel_of n (present slots) ≡ None) (λ at. IsPlace n slots at)
  pub sized : length index ≡ length (present slots)

-- each number is in the index, and no other
pub record HasNumbers (index : List (ℕ × ℕ)) (cs : List ChannelState) : Type 0 where
  pub same : (n : ℕ) → is_some (lookup (nat_eq n) index) ≡ is_some (channel_of n cs)
  pub sized : length index ≡ length cs

-- the channels' numbers
abbrev pub numbers : List ChannelState → List ℕ
numbers [] = []
numbers (c ∷ cs) = c.head.number ∷ numbers cs

abbrev pub has : ℕ → List ℕ → Bool
has n [] = false
has n (x ∷ xs) = x == n || has n xs

-- the numbers are different
abbrev pub Apart : List ℕ → Type 0
Apart [] = Unit {0}
Apart (x ∷ xs) = (has x xs ≡ false) × Apart xs

-- on how many channels bytes wait
abbrev pub waiting_of : List ChannelState → ℕ
waiting_of [] = 0
waiting_of (c ∷ cs) = (if waits c then 1 else 0) + waiting_of cs

-- a slot after its channel was flushed
abbrev pub flushed_slot : Option ChannelState → Option ChannelState
flushed_slot None = None
flushed_slot (Some c) = Some (flush_turn c).channel

-- the index and the count fit the slots
pub record IsStored (index : List (ℕ × ℕ)) (slots : Slots) (waiting : ℕ) : Type 0 where
  pub indexed : IsIndexed index slots
  pub counted : waiting ≡ waiting_of (present slots)
