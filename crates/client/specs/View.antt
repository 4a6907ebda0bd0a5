-- What the client's value holds, without the past. Assumes nothing.
use Rattle.std.specs.Prelude.{ℕ, Bool, List, [], ◌∷◌, Some, None, Option}
use Rattle.model.specs.Messages as model
use Rattle.model.specs.Client as side
use Rattle.client_channel.specs.Kept.{Kept}
use Rattle.client.specs.Kepts.{kepts_of}
use Rattle.numbers.specs.Has.{has}
use Rattle.client.specs.declared.value.Client.{Client}
use Rattle.client.specs.declared.value.Pending.{Pending}
use Rattle.client.specs.declared.value.Pending.TheVariants.{Login, Run, Credit}
use Rattle.client.specs.declared.refusal.Refusal.{Refusal}
use Rattle.client.specs.declared.refusal.Refusal.TheVariants.{BadNumber, TooManyHeld, NotHeld, AfterEof, TooMuch, Down}

abbrev pub refusal_of : Refusal → side.Refusal
refusal_of BadNumber = side.BadNumber
refusal_of TooManyHeld = side.TooManyHeld
refusal_of NotHeld = side.NotHeld
refusal_of AfterEof = side.AfterEof
refusal_of TooMuch = side.TooMuch
refusal_of Down = side.Down

-- the channels that are held, in rising order; which numbers were used; the least above them; what the last command itself sends;
-- the place of the one channel that may have something to send
pub record View : Type 0 where
  pub kepts : List Kept
  pub is_used : ℕ → Bool
  pub next : ℕ
  pub accepted : Bool
  pub up : Bool
  pub pending : List model.ToServer
  pub turn : Option ℕ

abbrev pub sent_by : Pending → model.ToServer
sent_by (Login u p) = model.Login u p
sent_by (Run t k) = model.For t (model.Run k)
sent_by (Credit t n) = model.For t (model.OutputCredit n)

abbrev pub pending_of : Option Pending → List model.ToServer
pending_of None = []
pending_of (Some p) = sent_by p ∷ []

abbrev pub view_of : Client → View
view_of c =
    record {
      kepts = kepts_of c.channels;
      is_used = has c.used;
      next = c.next;
      accepted = c.accepted;
      up = c.up;
      pending = pending_of c.pending;
      turn = c.turn;
    }
