-- Both sides, the two ways between them, which keep order, and whatever may happen. Assumes nothing.
use Rattle.std.specs.Prelude.{ℕ, suc, Bool, cond, not, ◌&&◌, List, [], ◌∷◌, ◌++◌}
use Rattle.model.specs.Messages.{Rules, ToServer, ToClient, Programs, Did}
use Rattle.model.specs.Client.{Client, new_client, Command, obey, take_in, cut_client}
use Rattle.model.specs.Server.{Server, new_server, serve, turn, lose, is_empty}

-- connection: how many connections came up before this one; there, back: the messages on the way
pub record World (S E : Type 0) : Type 0 where
  pub connection : ℕ
  pub client : Client
  pub server : Server S E
  pub there : List ToServer
  pub back : List ToClient

-- the user does something; a program has its turn; the next message arrives there, or here; a side learns that the connection is cut; a new one comes up; time passes
pub data Event : Type 0 where
  User : Command → Event
  Turn : (channel : ℕ) → Event
  ArriveThere : Event
  ArriveHere : Event
  CutHere : Event
  CutThere : Event
  Connect : Event
  Time : Event

module _ {S E : Type 0} where
  abbrev pub world : ℕ → Client → Server S E → List ToServer → List ToClient → World S E
  world n c s t b = record { connection = n; client = c; server = s; there = t; back = b }

  abbrev pub by_client : Did Client ToServer → List ToClient → World S E → World S E
  by_client d b w = world w.connection d.side w.server (w.there ++ d.sends) b

  abbrev pub by_server : Did (Server S E) ToClient → List ToServer → World S E → World S E
  by_server d t w = world w.connection w.client d.side t (w.back ++ d.sends)

  -- at a side that is down nothing arrives
  abbrev pub arrive_there : Rules → Programs S E → Bool → List ToServer → World S E → World S E
  arrive_there r p up [] w = w
  arrive_there r p up (m ∷ ms) w = cond up (by_server (serve r p w.connection m w.server) ms w) w

  abbrev pub arrive_here : Rules → Bool → List ToClient → World S E → World S E
  arrive_here r up [] w = w
  arrive_here r up (m ∷ ms) w = cond up (by_client (take_in r m w.client) ms w) w

  -- a new connection comes up once both sides are down and the server has forgotten the last one
  abbrev pub can_connect : World S E → Bool
  can_connect w = not w.client.up && (not w.server.up && is_empty w.server)

  abbrev pub connected : World S E → World S E
  connected w = world (suc w.connection) new_client (new_server w.server.env) [] []

  abbrev pub step : Rules → Programs S E → Event → World S E → World S E
  step r p (User k) w = by_client (obey r k w.client) w.back w
  step r p (Turn t) w = by_server (turn r p t w.server) w.there w
  step r p ArriveThere w = arrive_there r p w.server.up w.there w
  step r p ArriveHere w = arrive_here r w.client.up w.back w
  step r p CutHere w = world w.connection (cut_client w.client) w.server w.there w.back
  step r p CutThere w = by_server (lose r w.server) w.there w
  step r p Connect w = cond (can_connect w) (connected w) w
  step r p Time w = w

  abbrev pub beginning : E → World S E
  beginning e = world 0 new_client (new_server e) [] []

  -- after events, the latest first
  unfoldable pub after : Rules → Programs S E → E → List Event → World S E
  after r p e [] = beginning e
  after r p e (v ∷ vs) = step r p v (after r p e vs)
