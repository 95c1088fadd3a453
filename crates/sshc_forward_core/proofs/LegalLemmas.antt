-- Streams and channels agree, after every event: each channel is joined to the stream whose pair has it.
use Rattle.std.proofs.Common.{◌≡◌, ℕ, false, Option, Some, None, refl, sym, ap, subst, ◌∙◌, inl, inr}
use Rattle.std.specs.Prelude.{is_some}
use Rattle.std.specs.FinMap.{get, insert, remove}
use Rattle.std.proofs.lemmas.Bool.{cases_eq}
use Rattle.std.proofs.lemmas.Option.{none-some, same_Some}
use Rattle.sshc_forward_core.specs.PairState.{PairState, new_pair}
use Rattle.sshc_forward_core.specs.Forwards.{Forwards}
use Rattle.sshc_forward_core.proofs.PlaceLemmas.{get_here, get_other, gone_other, put_cases, left_after, one_value}
use Rattle.sshc_forward_core.proofs.TurnLaws.{IsSound}

pub record IsLegal (t : Forwards) : Type 0 where
  pub known : (s c : ℕ) (p : PairState) → get t.pairs s ≡ Some p → p.channel ≡ Some c → get t.joined c ≡ Some s
  pub joined : (s c : ℕ) → get t.joined c ≡ Some s → (p : PairState) × (get t.pairs s ≡ Some p) × (p.channel ≡ Some c)
  pub sound : (s : ℕ) (p : PairState) → get t.pairs s ≡ Some p → IsSound p

-- a pair takes a turn and keeps its channel
pub stays_turned :
    (t : Forwards) (s : ℕ) (q q2 : PairState) → IsLegal t → get t.pairs s ≡ Some q → q2.channel ≡ q.channel → IsSound q2 →
    IsLegal (record t { pairs = insert t.pairs s q2 })
stays_turned t s q q2 l at same sound = record {
  known = λ r c p h on. elim (put_cases t.pairs s q2 r p h) [
    | inl a ↦ subst (λ x. get t.joined c ≡ Some x) (sym a.0)
        (l.known s c q at (sym same ∙ ap (λ (x : PairState). x.channel) a.1 ∙ on))
    | inr a ↦ l.known r c p a.1 on
  ];
  joined = λ r c h.
      let w = l.joined r c h in
      elim (cases_eq r s) [
        | inl e ↦
            let q_is : q ≡ w.0 = one_value t.pairs s r q w.0 (sym e) at w.1 in (
              q2,
              ap (get (insert t.pairs s q2)) e ∙ get_here t.pairs s q2,
              same ∙ ap (λ (x : PairState). x.channel) q_is ∙ w.2,
            )
        | inr apart ↦ (w.0, get_other t.pairs s q2 r apart ∙ w.1, w.2)
      ];
  sound = λ r p h. elim (put_cases t.pairs s q2 r p h) [
    | inl a ↦ subst IsSound a.1 sound
    | inr a ↦ l.sound r p a.1
  ];
}

-- a new pair without a channel
pub stays_accepted :
    (t : Forwards) (s : ℕ) (q : PairState) → IsLegal t → get t.pairs s ≡ None → q.channel ≡ None → IsSound q →
    IsLegal (record t { pairs = insert t.pairs s q })
stays_accepted t s q l new off sound = record {
  known = λ r c p h on. elim (put_cases t.pairs s q r p h) [
    | inl a ↦ absurd (none-some c (sym off ∙ ap (λ (x : PairState). x.channel) a.1 ∙ on))
    | inr a ↦ l.known r c p a.1 on
  ];
  joined = λ r c h.
      let w = l.joined r c h in
      (w.0, get_other t.pairs s q r (λ e. none-some w.0 (sym new ∙ ap (get t.pairs) (sym e) ∙ w.1)) ∙ w.1, w.2);
  sound = λ r p h. elim (put_cases t.pairs s q r p h) [
    | inl a ↦ subst IsSound a.1 sound
    | inr a ↦ l.sound r p a.1
  ];
}

-- a pair gets a channel that was joined to no stream
pub stays_joined :
    (t : Forwards) (s c : ℕ) (q : PairState) → IsLegal t → get t.joined c ≡ None →
    ((p : PairState) → get t.pairs s ≡ Some p → p.channel ≡ None) → q.channel ≡ Some c → IsSound q →
    IsLegal (record { pairs = insert t.pairs s q; joined = insert t.joined c s })
stays_joined t s c q l free off on sound = record {
  known = λ r d p h has. elim (put_cases t.pairs s q r p h) [
    | inl a ↦
        let same : c ≡ d = same_Some c d (sym on ∙ ap (λ (x : PairState). x.channel) a.1 ∙ has) in
        ap (get (insert t.joined c s)) (sym same) ∙ get_here t.joined c s ∙ ap (λ (x : ℕ). Some x) (sym a.0)
    | inr a ↦
        let was = l.known r d p a.1 has in
        get_other t.joined c s d (λ e. none-some r (sym free ∙ ap (get t.joined) (sym e) ∙ was)) ∙ was
  ];
  joined = λ r d h. elim (put_cases t.joined c s d r h) [
    | inl a ↦ (q, ap (get (insert t.pairs s q)) (sym a.1) ∙ get_here t.pairs s q, on ∙ ap (λ (x : ℕ). Some x) (sym a.0))
    | inr a ↦
        let w = l.joined r d a.1 in
        (w.0, get_other t.pairs s q r (λ e. none-some d (sym (off w.0 (ap (get t.pairs) (sym e) ∙ w.1)) ∙ w.2)) ∙ w.1, w.2)
  ];
  sound = λ r p h. elim (put_cases t.pairs s q r p h) [
    | inl a ↦ subst IsSound a.1 sound
    | inr a ↦ l.sound r p a.1
  ];
}

-- a pair without a channel goes
pub stays_given_up :
    (t : Forwards) (s : ℕ) (q : PairState) → IsLegal t → get t.pairs s ≡ Some q → q.channel ≡ None →
    IsLegal (record t { pairs = remove t.pairs s })
stays_given_up t s q l at off = record {
  known = λ r c p h on. l.known r c p (left_after t.pairs s r p h).1 on;
  joined = λ r c h.
      let w = l.joined r c h in (
        w.0,
        gone_other t.pairs s r (λ e.
            none-some c (sym off ∙ ap (λ (x : PairState). x.channel) (one_value t.pairs s r q w.0 (sym e) at w.1) ∙ w.2)) ∙ w.1,
        w.2,
      );
  sound = λ r p h. l.sound r p (left_after t.pairs s r p h).1;
}

-- a pair goes with its channel
pub stays_closed :
    (t : Forwards) (s c : ℕ) → IsLegal t → get t.joined c ≡ Some s →
    IsLegal (record { pairs = remove t.pairs s; joined = remove t.joined c })
stays_closed t s c l on = record {
  known = λ r d p h has.
      let left = left_after t.pairs s r p h in
      let was = l.known r d p left.1 has in
      gone_other t.joined c d (λ e. left.0 (same_Some r s (sym was ∙ ap (get t.joined) e ∙ on))) ∙ was;
  joined = λ r d h.
      let left = left_after t.joined c d r h in
      let w = l.joined r d left.1 in
      let v = l.joined s c on in (
        w.0,
        gone_other t.pairs s r (λ e.
            left.0 (same_Some d c (sym w.2 ∙ ap (λ (x : PairState). x.channel) (one_value t.pairs r s w.0 v.0 e w.1 v.1) ∙ v.2))) ∙ w.1,
        w.2,
      );
  sound = λ r p h. l.sound r p (left_after t.pairs s r p h).1;
}

-- ---- each event

pub is_none : {A : Type 0} (o : Option A) → is_some o ≡ false → o ≡ None
is_none None h = refl
is_none (Some x) h = absurd (cc)

pub new_sound : (channel : Option ℕ) → IsSound (new_pair channel)
new_sound channel = record { opened = λ _. refl; failed = λ _. refl }
