-- Each message that is taken, as its contract has it.
use Rattle.std.proofs.Common.{◌≡◌, ℕ, ◌<◌, Bool, true, false, ◌||◌, [], length, get_or, set, Some, None, Ok, Err, Option, Result, sym, refl, ap, ◌∙◌, subst, inl, inr}
use Rattle.std.specs.List.{remove}
use Rattle.model.specs.Keyed.{is_in, numbers}
use Rattle.model.specs.Messages as model
use Rattle.model.specs.Messages.{Rules, real, ToServer, Did, did, Reply}
use Rattle.model.specs.Client as side
use Rattle.model.specs.Client.{ClientChannel, client, number_of, is_held, channel_at, answered, hear, heard, receive, take_in, flush, with_channels}
use Rattle.message.specs.Views.{to_client, reply, fault}
use Rattle.message.specs.declared.to_client.ToClient.{ToClient}
use Rattle.message.specs.declared.to_client.ToClient.TheVariants.{Accepted, Tock, Of}
use Rattle.message.specs.declared.to_client.Reply.{Reply as CodeReply}
use Rattle.client_channel.specs.Kept.{Kept, fresh}
use Rattle.client_channel.specs.Steps.{hear_of}
use Rattle.client.specs.declared.value.Client.{Client}
use Rattle.message.specs.declared.fault.Fault.{Fault}
use Rattle.client.specs.declared.refusal.Rejected.{Rejected}
use Rattle.client.specs.declared.refusal.Rejected.TheVariants.{For}
use Rattle.client.specs.View.{View, view_of}
use Rattle.client.specs.Stand.{whole}
use Rattle.client.specs.Contract.{Accepts, May, Stands, is_busy, fault_in, fault_of, Takes, Received}
use Rattle.client.proofs.Standing.{focus, Absent}
use Rattle.client.proofs.Moves.{view, After, idle, settled, changed, dropped, told, nothing, downed, owed-idle, owed-down}
use Rattle.client.proofs.Refusals.{found_at, absent-at}
use Rattle.client.proofs.Hears.{lifted, SameNumber, hear-is, hear-number}

-- the message under its name
pub takes_as : (m n : ToClient) (c d : Client) (f : Option model.Fault) → m ≡ n → Takes n c f d → Takes m c f d
takes_as m n c d f e h = subst (λ x. Takes x c f d) (sym e) h

-- the fault, as the code hands it on
pub rejected_by : (m : ToClient) (c d : Client) (e : Rejected) (f : Fault) → e ≡ For f → Takes m c (Some (fault f)) d → Received m c (Err e) d
rejected_by m c d e f h x = subst (λ z. Received m c (Err z) d) (sym h) x

-- a channel that was drops what comes
was : (r : Rules) (m : Reply) (x : ClientChannel) (q : side.Phase) → side.holds q ≡ false → side.hear_in r q m x ≡ Ok x
was r m x side.Asked h = cc
was r m x side.Running h = cc
was r m x side.Refused h = refl
was r m x side.Closed h = refl

module _ (c : Client) (b : is_busy c ≡ false) (u : (view_of c).up ≡ true) where
  abbrev v : View
  v = view_of c

  is_up : (w : side.Client) → Stands c w → w.up ≡ true
  is_up w s = s.up ∙ u

  -- a message that comes, by what the value is then
  takes-by : (m : ToClient) (f : Option model.Fault) (d : Client) (v' : View) → view_of d ≡ v' → ((a : Accepts) (p : May) (w : side.Client) → Stands c w → (fault_of (real a p) (to_client m) w ≡ f) × After v' (take_in (real a p) (to_client m) w)) → Takes m c f d
  takes-by m f d v' e h = record { idle = b; up = is_up; fault = λ a p w s. (h a p w s).0; stands = λ a p w s. (all a p w s).0; sends = λ a p w s. (all a p w s).1 }
    where
      all : (a : Accepts) (p : May) (w : side.Client) → Stands c w → After (view_of d) (take_in (real a p) (to_client m) w)
      all a p w s = subst (λ z. After z (take_in (real a p) (to_client m) w)) (sym e) (h a p w s).1

  -- the answer to a login
  pub told-takes : (x : Bool) (d : Client) → view_of d ≡ view v.kepts v.is_used v.next (v.accepted || x) v.up v.pending v.turn → Takes (Accepted x) c None d
  told-takes x d e = takes-by (Accepted x) None d _ (e ∙ (λ i. view v.kepts v.is_used v.next (v.accepted || x) v.up ((idle v b).pending i) v.turn)) (λ a p w s. (refl, told v w s b a p [] (λ y. y || x) u))

  -- nothing comes of it
  same_takes : (m : ToClient) → ((a : Accepts) (p : May) (w : side.Client) → Stands c w → (fault_of (real a p) (to_client m) w ≡ None) × (receive (real a p) (to_client m) w ≡ w)) → Takes m c None c
  same_takes m h = takes-by m None c v refl (λ a p w s. ((h a p w s).0, subst (After v) (sym (ap (λ z. flush (real a p) (did z [])) (h a p w s).1 ∙ nothing v w s b a p u)) (s, owed-idle v w s b)))

  pub tock-takes : Takes Tock c None c
  tock-takes = same_takes Tock (λ a p w s. (refl, refl))

  -- it is down
  abbrev vd : View
  vd = view v.kepts v.is_used v.next v.accepted false v.pending v.turn

  -- a channel that is not held
  module _ (t : ℕ) (n : (i : ℕ) (d : Kept) → i < length v.kepts → (get_or v.kepts i d).number ≡ t → ⊥) (m : CodeReply) where
    all_same : (w : side.Client) (s : Stands c w) → w.channels ≡ s.all
    all_same w s = ap (λ (x : side.Client). x.channels) (settled v w s (idle v b).turn)

    used-is : (w : side.Client) → Stands c w → v.is_used t ≡ is_in t (numbers number_of w.channels)
    used-is w s = s.used t ∙ ap (λ z. is_in t (numbers number_of z)) (sym (all_same w s))

    pub late-takes : v.is_used t ≡ true → Takes (Of t m) c None c
    late-takes h = same_takes (Of t m) (λ a p w s. late a p w s (absent-at v w s b a p t n))
      where
        late : (a : Accepts) (p : May) (w : side.Client) → Stands c w → Absent t w.channels → (fault_of (real a p) (model.Of t (reply m)) w ≡ None) × (receive (real a p) (model.Of t (reply m)) w ≡ w)
        late a p w s (inl x) = let q = sym h ∙ used-is w s ∙ x.1 in cc
        late a p w s (inr x) =
            let e : hear (real a p) (reply m) (channel_at t w) ≡ Ok x.0 = ap (hear (real a p) (reply m)) x.1 ∙ was (real a p) (reply m) x.0 x.0.phase x.2 in
            (ap fault_in e, ap (λ z. heard t z w) e ∙ ap (λ z. with_channels z w) x.3)

    pub never-takes : v.is_used t ≡ false → (d : Client) → view_of d ≡ view v.kepts v.is_used v.next v.accepted false v.pending v.turn → Takes (Of t m) c (Some model.NeverStarted) d
    never-takes h d e =
        takes-by (Of t m) (Some model.NeverStarted) d vd e
        (λ a p w s. (
          ap (λ z. fault_in (hear (real a p) (reply m) z)) (none a p w s),
          subst (λ z. After vd (flush (real a p) (did (heard t (hear (real a p) (reply m) z) w) []))) (sym (none a p w s)) (downed v w s b, owed-down vd refl),
        ))
      where
        none : (a : Accepts) (p : May) (w : side.Client) → Stands c w → channel_at t w ≡ None
        none a p w s = go (absent-at v w s b a p t n)
          where
            go : Absent t w.channels → channel_at t w ≡ None
            go (inl x) = x.0
            go (inr x) = let q = sym h ∙ used-is w s ∙ x.4 in cc

  -- a channel that is held
  module _ (i : ℕ) (l : i < length v.kepts) (m : CodeReply) where
    abbrev k : Kept
    k = get_or v.kepts i (fresh 0)

    heard-as : (x : Result (Option Kept) model.Fault) → hear_of (reply m) k ≡ x → (a : Accepts) (p : May) (w : side.Client) (s : Stands c w) → hear (real a p) (reply m) (channel_at k.number w) ≡ lifted k (focus s.stand i (fresh 0) l).command (focus s.stand i (fresh 0) l).went (focus s.stand i (fresh 0) l).taken x
    heard-as x e a p w s =
        let o = focus s.stand i (fresh 0) l in
        ap (hear (real a p) (reply m)) (found_at v w s b a p i (fresh 0) l) ∙ hear-is a p k o.command o.went o.taken (reply m) ∙ ap (lifted k o.command o.went o.taken) e

    heard-takes : (x : Result (Option Kept) model.Fault) (f : Option model.Fault) (d : Client) (v' : View) → hear_of (reply m) k ≡ x → view_of d ≡ v' →
        ((a : Accepts) (p : May) (w : side.Client) (s : Stands c w) → (fault_in (lifted k (focus s.stand i (fresh 0) l).command (focus s.stand i (fresh 0) l).went (focus s.stand i (fresh 0) l).taken x) ≡ f) × After v' (flush (real a p) (did (heard k.number (lifted k (focus s.stand i (fresh 0) l).command (focus s.stand i (fresh 0) l).went (focus s.stand i (fresh 0) l).taken x) w) []))) →
        Takes (Of k.number m) c f d
    heard-takes x f d v' h e g = takes-by (Of k.number m) f d v' e (λ a p w s. subst (λ z. (fault_in z ≡ f) × After v' (flush (real a p) (did (heard k.number z w) []))) (sym (heard-as x h a p w s)) (g a p w s))

    pub stays-takes : (k' : Kept) (d : Client) → hear_of (reply m) k ≡ Ok (Some k') → view_of d ≡ view (set v.kepts i k') v.is_used v.next v.accepted v.up [] (Some i) → Takes (Of k.number m) c None d
    stays-takes k' d h e =
        heard-takes (Ok (Some k')) None d _ h e
        (λ a p w s. let o = focus s.stand i (fresh 0) l in (refl, changed v w s b u i (fresh 0) l a p k' [] (λ _. whole k' o.command o.went o.taken) (subst (SameNumber k) h (hear-number k (reply m))) (o.went, o.taken, refl)))

    pub over-takes : (d : Client) → hear_of (reply m) k ≡ Ok None → view_of d ≡ view (remove v.kepts i) v.is_used v.next v.accepted v.up v.pending v.turn → Takes (Of k.number m) c None d
    over-takes d h e =
        heard-takes (Ok None) None d _ h e
        (λ a p w s. let o = focus s.stand i (fresh 0) l in (refl, dropped v w s b u i (fresh 0) l a p (λ _. answered false (whole k o.command o.went o.taken)) (refl, refl)))

    pub fault-takes : (f : model.Fault) (d : Client) → hear_of (reply m) k ≡ Err f → view_of d ≡ view v.kepts v.is_used v.next v.accepted false v.pending v.turn → Takes (Of k.number m) c (Some f) d
    fault-takes f d h e = heard-takes (Err f) (Some f) d vd h e (λ a p w s. (refl, (downed v w s b, owed-down vd refl)))
