-- The value is a client.
use Rattle.std.proofs.Common.{◌≡◌, ℕ, Bool, true, false, List, [], ◌∷◌, ◌++◌, Some, Option, sym, refl, ap, ◌∙◌, subst}
use Rattle.std.proofs.lemmas.List.{append-nil}
use Rattle.std.proofs.lemmas.Bool.{cond-true}
use Rattle.model.specs.Messages as model
use Rattle.model.specs.Messages.{Rules, real, Programs, Did, did}
use Rattle.model.specs.Client as side
use Rattle.model.specs.Client.{Command, obey, obey_unless, take_in, refusal}
use Rattle.model.specs.Server.{Server}
use Rattle.model.specs.World.{World, world, User, ArriveHere, step, by_client, arrive_there}
use Rattle.message.specs.Views.{to_client}
use Rattle.message.specs.declared.to_client.ToClient.{ToClient}
use Rattle.client.specs.declared.value.Client.{Client}
use Rattle.client.specs.View.{refusal_of}
use Rattle.client.specs.Contract.{Accepts, May, Stands, owed, Takes}
use Rattle.client.specs.IsClient.{IsClient}

module _ {S E : Type 0} where
  unmoved : (r : Rules) (p : Programs S E) (k : Command) (w : World S E) (f : side.Refusal) → refusal r k w.client ≡ Some f → step r p (User k) w ≡ w
  unmoved r p k w f e =
      let o : obey r k w.client ≡ did w.client [] = ap (obey_unless r k w.client) e in
      ap (λ (d : Did side.Client model.ToServer). by_client d w.back w) o ∙ (λ i. world w.connection w.client w.server (append-nil w.there i) w.back)

  there-same : (r : Rules) (p : Programs S E) (u : Bool) (ms : List model.ToServer) (w : World S E) → (arrive_there r p u ms w).client ≡ w.client
  there-same r p u [] w = refl
  there-same r p true (m ∷ ms) w = refl
  there-same r p false (m ∷ ms) w = refl

  arrived : (a : Accepts) (m : May) (p : Programs S E) (i : model.ToClient) (x y : Client) (n : ℕ) (c : side.Client) (s : Server S E) (t : List model.ToServer) (b : List model.ToClient) (q : ToClient) (f : Option model.Fault) → to_client q ≡ i → Takes q x f y → Stands x c →
      Stands y (step (real a m) p ArriveHere (world n c s t (i ∷ b))).client × ((step (real a m) p ArriveHere (world n c s t (i ∷ b))).there ≡ t ++ owed y) × ((step (real a m) p ArriveHere (world n c s t (i ∷ b))).back ≡ b)
  arrived a m p i x y n c s t b q f e h st =
      let w = world n c s t (i ∷ b) in
      let up : step (real a m) p ArriveHere w ≡ by_client (take_in (real a m) i c) b w = cond-true c.up _ _ (h.up c st) in
      subst (λ (z : World S E). Stands y z.client × (z.there ≡ t ++ owed y) × (z.back ≡ b)) (sym up)
      (subst (λ j. Stands y (take_in (real a m) j c).side) e (h.stands a m c st), ap (λ z. t ++ z) (subst (λ j. (take_in (real a m) j c).sends ≡ owed y) e (sym (h.sends a m c st))), refl)

pub is-client : (S E : Type 0) → IsClient S E
is-client S E =
    record {
      first = λ x h. (h.stands, h.owes);
      command = λ a m p k x y w h s. (h.stands a m w.client s, ap (λ z. w.there ++ z) (sym (h.sends a m w.client s)));
      refused = λ a m p k x y w h s. (h.1.same, unmoved (real a m) p k w (refusal_of h.0) (h.1.why a m w.client s));
      arrival = λ a m p i x y n c s t b h st. arrived a m p i x y n c s t b h.0 h.1 h.2 h.3 st;
      message = λ x y o c h s. (h.2.first c s ∙ ap (λ z. z ∷ owed y) h.1, h.2.stands c s);
      rest = λ x y c h s. (h.nothing c s, h.still c s, h.stands c s);
      cut = λ a m p x y w h s. (h.stands w.client s, h.owes);
      turn = λ a m p x t w s. s;
      there = λ a m p x w s. subst (Stands x) (sym (there-same (real a m) p w.server.up w.there w)) s;
      lost = λ a m p x w s. s;
      time = λ a m p x w s. s;
    }
