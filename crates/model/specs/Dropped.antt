-- What a side leaves as it was, whatever the other side sends: messages for a channel that was, and logins that are not accepted. Assumes nothing.
use Rattle.std.specs.Prelude.{◌≡◌, ℕ, suc, ◌<◌, ◌≤◌, Bool, true, false, ◌⊎◌, List, [], ◌∷◌, Some, None}
use mathlib.Core.List.{Memᴰ}
use Rattle.model.specs.Keyed.{numbers, Rising, is_in}
use Rattle.model.specs.Messages.{Rules, Request, Run, Reply, Login, For, Accepted, Of, Programs, did}
use Rattle.model.specs.Client.{Client, ClientChannel, number_of, channel_at, is_held, requests, take_in}
use Rattle.model.specs.Server.{Server, ServerChannel, number_at, channel_of, replies, serve, server}

-- a client with nothing left that may be sent
pub record Idle (r : Rules) (c : Client) : Type 0 where
  pub rising : Rising (numbers number_of c.channels)
  pub nothing : (x : ClientChannel) → Memᴰ x c.channels → requests r x ≡ []

pub record IdleServer {S E : Type 0} (r : Rules) (s : Server S E) : Type 0 where
  pub rising : Rising (numbers number_at s.channels)
  pub nothing : (f : ServerChannel S) → Memᴰ f s.channels → replies r f ≡ []

-- 9. At the client a message for a channel that was refused or closed changes nothing, and nothing is sent.
abbrev pub LateReplyDropped : Type 0
LateReplyDropped = (r : Rules) (c : Client) (t : ℕ) (m : Reply) (x : ClientChannel) → c.up ≡ true → Idle r c → channel_at t c ≡ Some x → is_held x ≡ false → take_in r (Of t m) c ≡ did c []

-- At the server a message for a channel that was forgotten or refused changes nothing, and nothing is sent.
abbrev pub is_run : Request → Bool
is_run (Run k) = true
is_run (Request.Input bs) = false
is_run (Request.OutputCredit n) = false
is_run Request.Eof = false
is_run Request.Close = false

abbrev pub Was : {S E : Type 0} → ℕ → Server S E → Type 0
Was {S} {E} t s = ((f : ServerChannel S) × (channel_of t s ≡ Some f) × (f.forgotten ≡ true)) ⊎ ((channel_of t s ≡ None) × (is_in t s.used ≡ true))

abbrev pub LateRequestDropped : (S E : Type 0) → Type 0
LateRequestDropped S E =
    (r : Rules) (p : Programs S E) (n : ℕ) (s : Server S E) (t : ℕ) (m : Request) → s.up ≡ true → IdleServer r s → Was t s → is_run m ≡ false → serve r p n (For t m) s ≡ did s []

-- A login after one was accepted changes nothing; one that is not accepted changes the count of tries, and the last that may fail takes the server down.
abbrev pub LaterLoginRefused : (S E : Type 0) → Type 0
LaterLoginRefused S E =
    (r : Rules) (p : Programs S E) (n u v : ℕ) (q : List ℕ) (s : Server S E) → s.up ≡ true → IdleServer r s → s.user ≡ Some v → serve r p n (Login u q) s ≡ did s (Accepted false ∷ [])

abbrev pub WrongLoginCounts : (S E : Type 0) → Type 0
WrongLoginCounts S E =
    (r : Rules) (p : Programs S E) (n u : ℕ) (q : List ℕ) (s : Server S E) → s.up ≡ true → IdleServer r s → s.user ≡ None → r.accepts n u q ≡ false →
    (suc s.tries < r.tries → serve r p n (Login u q) s ≡ did (server s.channels s.used None (suc s.tries) s.env true) (Accepted false ∷ [])) ×
    (r.tries ≤ suc s.tries → ((serve r p n (Login u q) s).side.up ≡ false) × ((serve r p n (Login u q) s).sends ≡ []) × ((serve r p n (Login u q) s).side.tries ≡ suc s.tries))
