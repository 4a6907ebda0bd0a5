-- Which servers of the model a view stands for. Assumes nothing.
use Rattle.std.specs.Prelude.{◌≡◌, ℕ, suc, ◌+◌, ◌<◌, ◌≤◌, Bool, true, false, List, [], ◌∷◌, ◌++◌, length, nat_le, if◌then◌else◌}
use Rattle.model.specs.Keyed.{is_in, above}
use Rattle.model.specs.Server.{Server, ServerChannel, server}
use Rattle.server_channel.specs.declared.Life.{Life}
use Rattle.server_channel.specs.declared.Life.TheVariants.{Running, Ended}
use Rattle.server_channel.specs.declared.Channel.{Channel}
use Rattle.server_channel.specs.Kept.{exit_of}
use Rattle.model.specs.Messages.{ToClient, Did, did}
use Rattle.desk.specs.View.{View, number_in, flushed, owed_by, tells}

-- what is not kept of a channel: its command and user, a state that is over, what was read, what was sent;
-- and, of a server that is down, the counts of what was sent before
pub record Past (S : Type 0) : Type 0 where
  pub command : ℕ
  pub user : ℕ
  pub state : S
  pub went : List ℕ
  pub gone : List ℕ
  pub sent : ℕ
  pub may : ℕ
  pub said : Bool

module _ {S : Type 0} where
  abbrev pub state_of : Life S → S → S
  state_of (Running s) t = s
  state_of (Ended n) t = t

  -- the model's channel, from what is kept of it and its past
  abbrev pub whole : Bool → Channel S → Past S → ServerChannel S
  whole up k p =
      record {
        number = k.counts.number;
        command = p.command;
        user = p.user;
        state = state_of k.life p.state;
        input = p.went ++ k.input;
        read = length p.went;
        eof = k.counts.eof;
        wrote = if up then p.gone ++ k.output else p.gone;
        sent = if up then length p.gone else p.sent;
        may = if up then length p.gone + k.counts.credit else p.may;
        exit = exit_of k.life;
        said = if up then k.counts.said else p.said;
        left = k.counts.left;
        forgotten = false;
      }

  -- the channels that are held stand among those that are forgotten, all in rising order from a number on; Good says which numbers may be
  pub data Stand (up : Bool) (Good : ℕ → Type 0) : ℕ → List (Channel S) → List (ServerChannel S) → Type 0 where
    none : {lo : ℕ} → Stand up Good lo [] []
    past : {lo : ℕ} {ks : List (Channel S)} {x : ServerChannel S} {xs : List (ServerChannel S)} → x.forgotten ≡ true → lo ≤ x.number → Good x.number → Stand up Good (suc x.number) ks xs → Stand up Good lo ks (x ∷ xs)
    held : {lo : ℕ} {k : Channel S} {ks : List (Channel S)} {x : ServerChannel S} {xs : List (ServerChannel S)} → (p : Past S) → x ≡ whole up k p → lo ≤ number_in k → Good (number_in k) → Stand up Good (suc (number_in k)) ks xs → Stand up Good lo (k ∷ ks) (x ∷ xs)

-- the numbers that were used
pub record Uses (next : ℕ) (is_used : ℕ → Bool) (used : List ℕ) : Type 0 where
  pub known : (t : ℕ) → t < 65536 → is_used t ≡ is_in t used
  pub free : (t : ℕ) → above t used ≡ nat_le next t

abbrev pub Used : ℕ → List ℕ → ℕ → Type 0
Used next used t = (t < next) × (is_in t used ≡ true)

module _ {S : Type 0} where
  pub record Fits (v : View S) (xs : List (ServerChannel S)) (used : List ℕ) : Type 0 where
    pub stand : Stand v.up (Used v.next used) 0 v.channels xs
    pub uses : Uses v.next v.is_used used

module _ {S E : Type 0} where
  abbrev pub at : View S → E → List (ServerChannel S) → List ℕ → Server S E
  at v e xs used = server xs used v.user v.tries e v.up

  -- the view, with an environment, stands for a server of the model, once what is owed is handed out
  pub record StandsFor (v : View S) (e : E) (s : Server S E) : Type 0 where
    pub channels : List (ServerChannel S)
    pub used : List ℕ
    pub fits : Fits (flushed v) channels used
    pub same : s ≡ at v e channels used

  -- the view stands for what the model came to, and owes what the model sends
  pub record Follows (d : Did (Server S E) ToClient) (v : View S) (e : E) : Type 0 where
    pub stands : StandsFor v e d.side
    pub owes : owed_by v ≡ d.sends

  -- before anything goes by itself: the model did what was done to the view
  pub record Meets (d : Did (Server S E) ToClient) (v : View S) (e : E) : Type 0 where
    pub channels : List (ServerChannel S)
    pub used : List ℕ
    pub fits : Fits v channels used
    pub does : d ≡ did (at v e channels used) (tells v.told)
