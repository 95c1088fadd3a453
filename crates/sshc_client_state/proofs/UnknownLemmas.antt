-- If no open of ours waits under a number, an answer of the peer's to it changes nothing.
use Rattle.std.proofs.Common.{◌≡◌, ℕ, Bool, true, false, List, [], ◌∷◌, Option, Some, None, is_some, if◌then◌else◌, refl, ap, sym, ◌∙◌, inl, inr}
use Rattle.std.proofs.lemmas.Bool.Decides.{eqb_tells}
use Rattle.sshc_wire.specs.declared.ticket.Ticket.{Ticket}
use Rattle.sshc_mux.specs.ChannelState.{ChannelState, TableState, channel_of, with_channel}
use Rattle.sshc_mux.specs.ChannelTable.{Effect, confirm_turn, is_awaited, no_packets_of, taken_away, turned, unmoved}
use Rattle.sshc_mux.specs.ChannelTable.Opens.{awaited, awaited_by, confirmed}
use Rattle.sshc_mux.specs.ChannelAccount.{Confirm, Fail, called}

-- a channel in its own place
put_back : (n : ℕ) (cs : List ChannelState) (c : ChannelState) → channel_of n cs ≡ Some c → with_channel n c cs ≡ cs
put_back n [] c found = refl
put_back n (x ∷ cs) c found = elim (eqb_tells x.head.number n) [
  | inl w ↦
      let same : Some x ≡ Some c = ap (λ (b : Bool). if b then Some x else channel_of n cs) (sym w.0) ∙ found in
      let is : c ≡ x = cc in
      ap (λ (b : Bool). if b then c ∷ cs else x ∷ with_channel n c cs) w.0 ∙ ap (λ (d : ChannelState). d ∷ cs) is
  | inr w ↦
      ap (λ (b : Bool). if b then c ∷ cs else x ∷ with_channel n c cs) w.0
      ∙ ap (λ (ds : List ChannelState). x ∷ ds) (put_back n cs c (ap (λ (b : Bool). if b then Some x else channel_of n cs) (sym w.0) ∙ found))
]

unconfirmed : (n recipient window packet : ℕ) (o : Option ChannelState) (t : TableState) → channel_of n t.channels ≡ o → awaited_by o ≡ None →
    (turned n o (confirm_turn recipient window packet) t).table ≡ t
unconfirmed n recipient window packet None t is none = refl
unconfirmed n recipient window packet (Some c) t is none =
    ap (λ (x : Option (Option Ticket)). record t { channels = with_channel n (if is_some x then confirmed recipient window packet c else c) t.channels }) none
    ∙ ap (λ (cs : List ChannelState). record t { channels = cs }) (put_back n t.channels c is)

pub none_confirmed : (n recipient window packet : ℕ) (t : TableState) → awaited n t ≡ None →
    (called (Confirm n recipient window packet) t).table ≡ t
none_confirmed n recipient window packet t none =
    unconfirmed n recipient window packet (channel_of n t.channels) t refl none

kept_if : (goes : Bool) (x : Effect) (t : TableState) → goes ≡ false → (if goes then x else unmoved t).table ≡ t
kept_if true x t is = absurd (cc)
kept_if false x t is = refl

unfailed : (n : ℕ) (o : Option ChannelState) (t : TableState) → awaited_by o ≡ None →
    (taken_away n o is_awaited no_packets_of t).table ≡ t
unfailed n None t none = refl
unfailed n (Some c) t none =
    kept_if (is_awaited c) _ t (ap (λ (x : Option (Option Ticket)). is_some x) none)

pub none_failed : (n : ℕ) (t : TableState) → awaited n t ≡ None → (called (Fail n) t).table ≡ t
none_failed n t none = unfailed n (channel_of n t.channels) t none
