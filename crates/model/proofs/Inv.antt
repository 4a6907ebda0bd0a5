-- What holds after every list of events: of each channel, and of all together. Assumes nothing.
use Rattle.std.proofs.Common.{◌≡◌, ℕ, ◌≤◌, true, List, [], ◌∷◌, ◌++◌, Some}
use Rattle.model.specs.Keyed.{numbers, is_in, Rising}
use Rattle.model.specs.Messages.{Rules, ToServer, Login, Tick, For, ToClient, Run, Input, OutputCredit, Eof, Close}
use Rattle.model.specs.Client.{Client, ClientChannel, number_of, channel_at, requests}
use Rattle.model.specs.Server.{Server, ServerChannel, number_at, channel_of, replies}
use Rattle.model.specs.World.{World}
use Rattle.model.proofs.Ways.{asks, tells-of}
use Rattle.model.proofs.Local.{Local}

-- the starts on the way, in order
unfoldable pub starts : List ToServer → List ℕ
starts [] = []
starts (Login u q ∷ ms) = starts ms
starts (Tick ∷ ms) = starts ms
starts (For t (Run k) ∷ ms) = t ∷ starts ms
starts (For t (Input bs) ∷ ms) = starts ms
starts (For t (OutputCredit n) ∷ ms) = starts ms
starts (For t Eof ∷ ms) = starts ms
starts (For t Close ∷ ms) = starts ms

module _ {S E : Type 0} where
  pub record InvOf (r : Rules) (c : Client) (s : Server S E) (there : List ToServer) (back : List ToClient) : Type 0 where
    pub rising : Rising (numbers number_of c.channels)
    pub rising-there : Rising (numbers number_at s.channels)
    -- what was started came, or is on the way, in order
    pub order : numbers number_of c.channels ≡ s.used ++ starts there
    pub used : (t : ℕ) → is_in t (numbers number_at s.channels) ≡ true → is_in t s.used ≡ true
    pub local : (t : ℕ) → Local r c.up s.up (channel_at t c) (channel_of t s) (asks t there) (tells-of t back)
    pub small : (t : ℕ) → is_in t (numbers number_of c.channels) ≡ true → t ≤ r.last
    -- a side that is up has nothing left that may be sent
    pub idle : c.up ≡ true → (t : ℕ) (x : ClientChannel) → channel_at t c ≡ Some x → requests r x ≡ []
    pub idle-there : s.up ≡ true → (t : ℕ) (f : ServerChannel S) → channel_of t s ≡ Some f → replies r f ≡ []

  abbrev pub Inv : Rules → World S E → Type 0
  Inv r w = InvOf r w.client w.server w.there w.back
