-- What a server holds, without its past: its channels in rising order, and what is told next. Assumes nothing.
use Rattle.std.specs.Prelude.{ℕ, Bool, true, false, not, List, [], ◌∷◌, ◌++◌, map, Some, None, Option, if◌then◌else◌}
use Rattle.model.specs.Keyed.{gather}
use Rattle.std.specs.List.{list_all}
use Rattle.model.specs.Messages.{ToClient, Accepted, Of, Runs, InputCredit}
use Rattle.model.specs.Server.{returned}
use Rattle.server_channel.specs.declared.Channel.{Channel}
use Rattle.desk.specs.declared.Notice.{Notice}
use Rattle.desk.specs.declared.Notice.TheVariants.{Logged, Refused, Started, Freed}
use Rattle.server_channel.specs.Kept.{due, settled, is_running}

abbrev pub tells : Option Notice → List ToClient
tells None = []
tells (Some (Logged b)) = Accepted b ∷ []
tells (Some (Refused t)) = Of t (Runs false) ∷ []
tells (Some (Started t)) = Of t (Runs true) ∷ (Of t (InputCredit 8192) ∷ [])
tells (Some (Freed t n)) = Of t (InputCredit n) ∷ []

-- next: the least number that may still be used; is_used: which were
pub record View (S : Type 0) : Type 0 where
  pub channels : List (Channel S)
  pub next : ℕ
  pub is_used : ℕ → Bool
  pub user : Option ℕ
  pub tries : ℕ
  pub up : Bool
  pub told : Option Notice

module _ {S : Type 0} where
  abbrev pub view : List (Channel S) → ℕ → (ℕ → Bool) → Option ℕ → ℕ → Bool → Option Notice → View S
  view ks n h u t up m = record { channels = ks; next = n; is_used = h; user = u; tries = t; up = up; told = m }

  abbrev pub number_in : Channel S → ℕ
  number_in k = k.counts.number

  abbrev pub due_of : Channel S → List ToClient
  due_of k = returned (number_in k) (due k)

  -- the messages that are still to be handed out
  abbrev pub owed_by : View S → List ToClient
  owed_by v = tells v.told ++ (if v.up then gather due_of v.channels else [])

  -- the view once they are
  abbrev pub flushed : View S → View S
  flushed v = view (if v.up then map settled v.channels else v.channels) v.next v.is_used v.user v.tries v.up None

  abbrev pub has_ended : Channel S → Bool
  has_ended k = not (is_running k.life)

  -- a server that is down forgets all once all have ended
  abbrev pub closed : View S → View S
  closed v = view (if v.up then v.channels else if list_all has_ended v.channels then [] else v.channels) v.next v.is_used v.user v.tries v.up v.told
