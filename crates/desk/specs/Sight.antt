-- The view of a desk, and what its calls do to it. Assumes nothing.
use Rattle.std.specs.Prelude.{◌≡◌, ℕ, ◌<◌, true, false, List, [], ◌∷◌, length, Some, None, Ok, Err, vec_items, Option, Result, ◌≢◌, slice_index_or, slice_set}
use Rattle.std.specs.List.{All, AllPass, HoldsAt}
use Rattle.model.specs.Messages.{Request, Fault, Programs}
use Rattle.message.specs.declared.fault.Fault as code
use Rattle.message.specs.Views.{to_client, fault}
use Rattle.message.specs.declared.to_client.ToClient.{ToClient}
use Rattle.server_channel.specs.declared.Channel.{Channel}
use Rattle.server_channel.specs.Kept.{quiet, heard}
use Rattle.numbers.specs.Has.{has}
use Rattle.desk.specs.declared.Desk.{Desk}
use Rattle.server_channel.specs.Turns.{turn_by}
use Rattle.desk.specs.Events.{took_at, cut_down, turned_at, holding}
use Rattle.desk.specs.View.{View, view, number_in, owed_by, flushed}

module _ {S : Type 0} where
  abbrev pub view_of : Desk S → View S
  view_of d = view d.channels.held.items d.next (has d.numbers) d.user d.tries d.up d.notice

  -- where a channel is held
  abbrev pub Finds : ℕ → List (Channel S) → Option ℕ → Type 0
  Finds t ks None = All (λ k. number_in k ≢ t) ks
  Finds t ks (Some i) = (i < length ks) × HoldsAt (λ k. number_in k ≡ t) ks i

  -- the first channel of which something goes
  abbrev pub FirstDue : List (Channel S) → Option ℕ → Type 0
  FirstDue ks None = AllPass quiet ks
  FirstDue ks (Some i) = (i < length ks) × ((j : ℕ) (d : Channel S) → j < i → quiet (slice_index_or ks j d) ≡ true) × HoldsAt (λ k. quiet k ≡ false) ks i

  -- the first of what is owed is handed out
  pub record HandsNone (v w : View S) : Type 0 where
    pub owed : owed_by v ≡ []
    pub same : w ≡ v

  pub record HandsOne (v : View S) (m : ToClient) (w : View S) : Type 0 where
    pub owed : owed_by v ≡ to_client m ∷ owed_by w
    pub same : flushed v ≡ flushed w

  abbrev pub Hands : View S → Option ToClient → View S → Type 0
  Hands v None w = HandsNone v w
  Hands v (Some m) w = HandsOne v m w

  -- nothing was used, nobody is accepted, nothing is owed
  pub record Fresh (v : View S) : Type 0 where
    pub channels : v.channels ≡ []
    pub next : v.next ≡ 0
    pub is_used : (n : ℕ) → v.is_used n ≡ false
    pub user : v.user ≡ None
    pub tries : v.tries ≡ 0
    pub up : v.up ≡ true
    pub told : v.told ≡ None

  -- a message for the channel at a place: it is taken in, or it is a fault
  pub record TakesAt (q : Request) (i : ℕ) (v w : View S) : Type 0 where
    pub left : Channel S
    pub hears : (d : Channel S) → heard q (slice_index_or v.channels i d) ≡ Ok left
    pub after : w ≡ took_at q i left v

  pub record FaultsAt (q : Request) (i : ℕ) (v : View S) (f : Fault) (w : View S) : Type 0 where
    pub hears : (d : Channel S) → heard q (slice_index_or v.channels i d) ≡ Err f
    pub after : w ≡ cut_down v

  pub record PutAt (q : Request) (i : ℕ) (v w : View S) : Type 0 where
    pub left : Channel S
    pub hears : (d : Channel S) → heard q (slice_index_or v.channels i d) ≡ Ok left
    pub after : w ≡ holding (slice_set v.channels i left) v

  abbrev pub PutsAt : Request → ℕ → View S → Result Unit code.Fault → View S → Type 0
  PutsAt q i v (Ok u) w = PutAt q i v w
  PutsAt q i v (Err f) w = FaultsAt q i v (fault f) w

  abbrev pub HearsAt : Request → ℕ → View S → Result Unit code.Fault → View S → Type 0
  HearsAt q i v (Ok u) w = TakesAt q i v w
  HearsAt q i v (Err f) w = FaultsAt q i v (fault f) w

-- a turn of the program of the channel at a place
pub record TurnsAt {S E : Type 0} (p : Programs S E) (i : ℕ) (e : E) (v : View S) (e' : E) (w : View S) : Type 0 where
  pub env : (d : Channel S) → e' ≡ (turn_by p v.up e (slice_index_or v.channels i d)).env
  pub after : (d : Channel S) → w ≡ turned_at (number_in (slice_index_or v.channels i d)) i (turn_by p v.up e (slice_index_or v.channels i d)).kept (turn_by p v.up e (slice_index_or v.channels i d)).freed v
