-- What it is to be a client: states that stand for the model's client in any world, and what each event does to them. Assumes nothing.
use Rattle.std.specs.Prelude.{◌≡◌, ℕ, List, [], ◌∷◌, ◌++◌, Option}
use Rattle.model.specs.Messages as model
use Rattle.model.specs.Messages.{real, Programs}
use Rattle.model.specs.Client as side
use Rattle.model.specs.Client.{Command, new_client}
use Rattle.model.specs.Server.{Server}
use Rattle.model.specs.World.{World, world, User, Turn, ArriveThere, ArriveHere, CutHere, CutThere, Time, step}
use Rattle.message.specs.Views.{to_server, to_client}
use Rattle.message.specs.declared.to_server.ToServer.{ToServer}
use Rattle.message.specs.declared.to_client.ToClient.{ToClient}
use Rattle.client.specs.declared.value.Client.{Client}
use Rattle.client.specs.declared.refusal.Refusal.{Refusal}
use Rattle.client.specs.Contract.{Accepts, May, Stands, owed, Begins, Obeys, Refuses, Takes, HandsOne, HandsNone, Cuts}

-- X: its states; stands: which clients of the model a state may stand for; owes: the messages that are still to be sent;
-- begins, obeys, refuses, takes, hands, rests, cuts: its first states, and its steps
pub record ClientOf (S E X : Type 0) (stands : X → side.Client → Type 0) (owes : X → List model.ToServer) (begins : X → Type 0) (obeys : Command → X → X → Type 0) (refuses : Command → X → X → Type 0) (takes : model.ToClient → X → X → Type 0) (hands : X → model.ToServer → X → Type 0) (rests cuts : X → X → Type 0) : Type 0 where
  pub first : (x : X) → begins x → stands x new_client × (owes x ≡ [])
  -- a command: the state stands for the client after it, and owes what it puts on the way
  pub command : (a : Accepts) (m : May) (p : Programs S E) (k : Command) (x y : X) (w : World S E) → obeys k x y → stands x w.client → stands y (step (real a m) p (User k) w).client × ((step (real a m) p (User k) w).there ≡ w.there ++ owes y)
  -- one that is refused changes nothing on either side
  pub refused : (a : Accepts) (m : May) (p : Programs S E) (k : Command) (x y : X) (w : World S E) → refuses k x y → stands x w.client → (y ≡ x) × (step (real a m) p (User k) w ≡ w)
  -- a message that arrives
  pub arrival : (a : Accepts) (m : May) (p : Programs S E) (i : model.ToClient) (x y : X) (n : ℕ) (c : side.Client) (s : Server S E) (t : List model.ToServer) (b : List model.ToClient) → takes i x y → stands x c →
      stands y (step (real a m) p ArriveHere (world n c s t (i ∷ b))).client × ((step (real a m) p ArriveHere (world n c s t (i ∷ b))).there ≡ t ++ owes y) × ((step (real a m) p ArriveHere (world n c s t (i ∷ b))).back ≡ b)
  -- the messages that are owed are handed out in order, while the client of the model stays
  pub message : (x y : X) (o : model.ToServer) (c : side.Client) → hands x o y → stands x c → (owes x ≡ o ∷ owes y) × stands y c
  pub rest : (x y : X) (c : side.Client) → rests x y → stands x c → (owes x ≡ []) × (owes y ≡ []) × stands y c
  pub cut : (a : Accepts) (m : May) (p : Programs S E) (x y : X) (w : World S E) → cuts x y → stands x w.client → stands y (step (real a m) p CutHere w).client × (owes y ≡ [])
  -- what happens at the other side leaves it alone
  pub turn : (a : Accepts) (m : May) (p : Programs S E) (x : X) (t : ℕ) (w : World S E) → stands x w.client → stands x (step (real a m) p (Turn t) w).client
  pub there : (a : Accepts) (m : May) (p : Programs S E) (x : X) (w : World S E) → stands x w.client → stands x (step (real a m) p ArriveThere w).client
  pub lost : (a : Accepts) (m : May) (p : Programs S E) (x : X) (w : World S E) → stands x w.client → stands x (step (real a m) p CutThere w).client
  pub time : (a : Accepts) (m : May) (p : Programs S E) (x : X) (w : World S E) → stands x w.client → stands x (step (real a m) p Time w).client

-- the value is one, by what its calls ensure
abbrev pub IsClient : (S E : Type 0) → Type 0
IsClient S E =
    ClientOf S E Client Stands owed Begins Obeys
    (λ k c d. (f : Refusal) × Refuses k c f d)
    (λ i c d. (m : ToClient) × (f : Option model.Fault) × (to_client m ≡ i) × Takes m c f d)
    (λ c o d. (m : ToServer) × (to_server m ≡ o) × HandsOne c m d)
    HandsNone
    Cuts
