-- What each call does, for every client of the model that the value may stand for. Assumes nothing.
use Rattle.std.specs.Prelude.{◌≡◌, ℕ, Bool, true, false, List, [], ◌∷◌, ◌++◌, length, take, drop, Some, None, Ok, Err, Option, Result}
use Rattle.model.specs.Messages as model
use Rattle.model.specs.Messages.{real}
use Rattle.model.specs.Client as side
use Rattle.model.specs.Client.{Command, ClientChannel, new_client, channel_at, refusal, obey, hear, take_in, takeable, cut_client}
use Rattle.message.specs.Views.{to_server, to_client, fault}
use Rattle.message.specs.declared.to_server.ToServer.{ToServer}
use Rattle.message.specs.declared.to_client.ToClient.{ToClient}
use Rattle.client.specs.declared.value.Client.{Client}
use Rattle.client.specs.declared.refusal.Refusal.{Refusal}
use Rattle.client.specs.declared.refusal.Refused.{Refused}
use Rattle.client.specs.declared.refusal.Refused.TheVariants as refused
use Rattle.client.specs.declared.refusal.Rejected.{Rejected}
use Rattle.client.specs.declared.refusal.Rejected.TheVariants as rejected
use Rattle.client.specs.View.{view_of, refusal_of}
use Rattle.client.specs.Stand.{StandsFor, owed_by, busy}

abbrev pub Stands : Client → side.Client → Type 0
Stands c w = StandsFor (view_of c) w

abbrev pub owed : Client → List model.ToServer
owed c = owed_by (view_of c)

abbrev pub is_busy : Client → Bool
is_busy c = busy (view_of c)

abbrev pub Accepts : Type 0
Accepts = ℕ → ℕ → List ℕ → Bool

abbrev pub May : Type 0
May = ℕ → ℕ → Bool

pub record Begins (c : Client) : Type 0 where
  pub stands : Stands c new_client
  pub owes : owed c ≡ []
  pub idle : is_busy c ≡ false

-- a command that was obeyed, one that was refused, and one that came too early
pub record Obeys (k : Command) (c d : Client) : Type 0 where
  pub idle : is_busy c ≡ false
  pub allowed : (a : Accepts) (m : May) (w : side.Client) → Stands c w → refusal (real a m) k w ≡ None
  pub stands : (a : Accepts) (m : May) (w : side.Client) → Stands c w → Stands d (obey (real a m) k w).side
  pub sends : (a : Accepts) (m : May) (w : side.Client) → Stands c w → owed d ≡ (obey (real a m) k w).sends

pub record Refuses (k : Command) (c : Client) (f : Refusal) (d : Client) : Type 0 where
  pub idle : is_busy c ≡ false
  pub same : d ≡ c
  pub why : (a : Accepts) (m : May) (w : side.Client) → Stands c w → refusal (real a m) k w ≡ Some (refusal_of f)

pub record TooEarly (c d : Client) : Type 0 where
  pub busy : is_busy c ≡ true
  pub same : d ≡ c

-- a command that was not obeyed
abbrev pub Stopped : Command → Client → Refused → Client → Type 0
Stopped k c refused.Busy d = TooEarly c d
Stopped k c (refused.By f) d = Refuses k c f d

abbrev pub Obeyed : {T : Type 0} → Command → Client → Result T Refused → Client → Type 0
Obeyed k c (Ok x) d = Obeys k c d
Obeyed k c (Err e) d = Stopped k c e d

-- what the user gets who takes from a channel: its output that was not taken yet, as much as there is and fits
pub record Gets (t : ℕ) (c : Client) (out : List ℕ) (n : ℕ) (now : List ℕ) : Type 0 where
  pub count : (w : side.Client) → Stands c w → n ≡ takeable (length out) (channel_at t w)
  pub bytes : (w : side.Client) (x : ClientChannel) → Stands c w → channel_at t w ≡ Some x → now ≡ take n (drop x.taken x.got) ++ drop n out

abbrev pub Taken : ℕ → Client → List ℕ → Result ℕ Refused → List ℕ → Type 0
Taken t c out (Ok n) now = Gets t c out n now
Taken t c out (Err f) now = now ≡ out

-- a message that was taken, one that is a fault, and one that came too early or too late
abbrev pub fault_in : Result ClientChannel model.Fault → Option model.Fault
fault_in (Ok x) = None
fault_in (Err f) = Some f

abbrev pub fault_of : model.Rules → model.ToClient → side.Client → Option model.Fault
fault_of r (model.Accepted b) w = None
fault_of r model.Tock w = None
fault_of r (model.Of t m) w = fault_in (hear r m (channel_at t w))

pub record Takes (m : ToClient) (c : Client) (f : Option model.Fault) (d : Client) : Type 0 where
  pub idle : is_busy c ≡ false
  pub up : (w : side.Client) → Stands c w → w.up ≡ true
  pub fault : (a : Accepts) (p : May) (w : side.Client) → Stands c w → fault_of (real a p) (to_client m) w ≡ f
  pub stands : (a : Accepts) (p : May) (w : side.Client) → Stands c w → Stands d (take_in (real a p) (to_client m) w).side
  pub sends : (a : Accepts) (p : May) (w : side.Client) → Stands c w → owed d ≡ (take_in (real a p) (to_client m) w).sends

pub record TooLate (c d : Client) : Type 0 where
  pub idle : is_busy c ≡ false
  pub down : (w : side.Client) → Stands c w → w.up ≡ false
  pub same : d ≡ c

abbrev pub Received : ToClient → Client → Result Unit Rejected → Client → Type 0
Received m c (Ok x) d = Takes m c None d
Received m c (Err rejected.Busy) d = TooEarly c d
Received m c (Err rejected.Down) d = TooLate c d
Received m c (Err (rejected.For f)) d = Takes m c (Some (fault f)) d

-- the next message is the first that is owed; there is none when nothing is owed, and then other calls are taken
pub record HandsNone (c d : Client) : Type 0 where
  pub idle : is_busy d ≡ false
  pub nothing : (w : side.Client) → Stands c w → owed c ≡ []
  pub still : (w : side.Client) → Stands c w → owed d ≡ []
  pub stands : (w : side.Client) → Stands c w → Stands d w

pub record HandsOne (c : Client) (m : ToServer) (d : Client) : Type 0 where
  pub first : (w : side.Client) → Stands c w → owed c ≡ to_server m ∷ owed d
  pub stands : (w : side.Client) → Stands c w → Stands d w

abbrev pub Hands : Client → Option ToServer → Client → Type 0
Hands c None d = HandsNone c d
Hands c (Some m) d = HandsOne c m d

-- the connection is cut here; nothing is owed
pub record Cuts (c d : Client) : Type 0 where
  pub idle : is_busy c ≡ false
  pub stands : (w : side.Client) → Stands c w → Stands d (cut_client w)
  pub owes : owed d ≡ []

abbrev pub Cut : Client → Result Unit Refused → Client → Type 0
Cut c (Ok x) d = Cuts c d
Cut c (Err refused.Busy) d = TooEarly c d
Cut c (Err (refused.By f)) d = ⊥
