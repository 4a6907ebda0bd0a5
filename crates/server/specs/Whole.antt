-- What the calls of a server do, said of the whole server: its desk, its programs and its accounts. Assumes nothing.
use Rattle.std.specs.Prelude.{ℕ, Ok, Err, Some, None, Option, Result}
use Rattle.model.specs.Messages.{Programs, Rules, ToServer, ToClient, Request, Did, Fault}
use Rattle.model.specs.Server as model
use Rattle.model.specs.Server.{turn_of, channel_of}
use Rattle.programs.specs.Grants.{Grants}
use Rattle.message.specs.Views.{fault}
use Rattle.message.specs.declared.fault.Fault as code
use Rattle.desk.specs.Sight.{view_of}
use Rattle.server.specs.declared.Refusal.{Refusal}
use Rattle.server.specs.declared.Stop.{Stop}
use Rattle.server.specs.declared.Server.{Server}
use Rattle.server.specs.Calls.{Receives, Turns, Connects, Takes', Passes', Does'}

abbrev pub fault_of : Result Unit code.Fault → Option Fault
fault_of (Ok u) = None
fault_of (Err f) = Some (fault f)

module _ {P A S : Type 0} where
  abbrev pub ServerConnects : Server P A S → Result Unit Refusal → Server P A S → Type 0
  ServerConnects s r t = Connects (view_of s.desk) s.programs r (view_of t.desk) t.programs

module _ {P A S : Type 0} (grants : A → Grants) where
  abbrev pub ServerTurns : (Rules → ℕ → model.Server S P → Did (model.Server S P) ToClient) → Server P A S → Result Unit Refusal → Server P A S → Type 0
  ServerTurns event s r t = Turns (grants s.accounts) event (view_of s.desk) s.programs r (view_of t.desk) t.programs

  -- a message for a channel, but a start
  abbrev pub ServerPasses : ℕ → Request → Server P A S → Result Unit code.Fault → Server P A S → Type 0
  ServerPasses n q s r t = Passes' (grants s.accounts) n q (view_of s.desk) s.programs (fault_of r) (view_of t.desk) t.programs

module _ {P A S : Type 0} (grants : A → Grants) (p : Programs S P) where
  abbrev pub ServerReceives : ToServer → Server P A S → Result Unit Stop → Server P A S → Type 0
  ServerReceives m s r t = Receives (grants s.accounts) p m (view_of s.desk) s.programs r (view_of t.desk) t.programs

  -- a message that is taken, or that is a fault, before anything goes by itself
  abbrev pub ServerTakes : ToServer → Server P A S → Result Unit code.Fault → Server P A S → Type 0
  ServerTakes m s r t = Takes' (grants s.accounts) p m (view_of s.desk) s.programs (fault_of r) (view_of t.desk) t.programs

  -- a turn, before anything goes by itself
  abbrev pub ServerHasTurn : ℕ → Server P A S → Server P A S → Type 0
  ServerHasTurn n s t = Does' (grants s.accounts) (λ r c z. turn_of r p n (channel_of n z) z) (view_of s.desk) s.programs (view_of t.desk) t.programs
