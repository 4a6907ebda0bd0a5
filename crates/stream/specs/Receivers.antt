-- What a receiver stands for, and what it makes of a piece. Assumes nothing.
use Rattle.std.specs.Prelude.{◌≡◌, ℕ, ◌+◌, ◌-◌, ◌<◌, ◌≤◌, ◌⊎◌, Bool, true, false, List, [], ◌∷◌, ◌++◌, length, take, Some, None, Ok, Err, Option, Result}
use Rattle.wire.specs.declared.fault.Fault as fault
use Rattle.wire.specs.declared.fault.Fault.TheVariants as faults
use Rattle.wire.specs.Codes.{Code, inside_of}
use Rattle.seal.specs.declared.secret.Secret.{Secret}
use Rattle.seal.specs.Frames.{Fits, Whole, largest, opened, size_at}
use Rattle.seal.specs.Ways.{Stands, WhereStands}
use Rattle.seal.specs.declared.way.Way.{Way}
use Rattle.stream.specs.Streams.{Got, feed}
use Rattle.stream.specs.Readers.{Short, held_of}
use Rattle.stream.specs.declared.receiver.Receiver.{Receiver}

pub record Up (r : Receiver) (s : Secret) (g : Got) : Type 0 where
  pub way : Stands r.way s g.number
  pub held : held_of r.reader ≡ g.held

-- the receiver is where the bytes of a stream lead: g is a function of all of them
pub record Is (r : Receiver) (s : Secret) (g : Got) : Type 0 where
  pub fault : r.fault ≡ g.fault
  pub up : g.fault ≡ None → Up r s g

-- the receiver after some more bytes, with the insides that are taken now, and the fault
pub record Reached (s : Secret) (known : List ℕ → Bool) (g : Got) (bytes : List ℕ) (v : Receiver) (insides : List (List ℕ)) (end : Option fault.Fault) : Type 0 where
  pub is : Is v s (feed s known g bytes)
  pub taken : (feed s known g bytes).taken ≡ insides
  pub fault : (feed s known g bytes).fault ≡ end

module _ {M : Type 0} (code : Code M) where
  -- the whole message that is held
  abbrev pub Takes : (w : Way) (h : List ℕ) → Result M fault.Fault → (v : Way) (k : List ℕ) → Type 0
  Takes w h (Ok m) v k = (k ≡ []) × WhereStands w (λ s n. Fits s n h × (inside_of code m ≡ opened s n h) × (code.known (opened s n h) ≡ true) × Stands v s (n + 1))
  Takes w h (Err faults.Length) v k = Whole h → ⊥
  Takes w h (Err faults.Tag) v k = WhereStands w (λ s n. Fits s n h → ⊥)
  Takes w h (Err faults.Malformed) v k = WhereStands w (λ s n. Fits s n h × (code.known (opened s n h) ≡ false))

  -- bytes at which a stream ends: the message is too long, or it is whole and there is none
  abbrev pub Ends : (w : Way) (h : List ℕ) → fault.Fault → (v : Way) (k : List ℕ) → Type 0
  Ends w h f v k = ((length h ≡ 2) × (largest < size_at h) × (f ≡ faults.Length)) ⊎ (Whole h × Takes w h (Err f) v k)

  -- what comes of a piece behind the bytes h that are held
  abbrev pub Arrives : (w : Way) (h piece : List ℕ) → Result (Option (M × ℕ)) fault.Fault → (v : Way) (k : List ℕ) → Type 0
  Arrives w h piece (Ok None) v k = (v ≡ w) × (k ≡ h ++ piece) × Short k
  Arrives w h piece (Ok (Some (m, used))) v k = (0 < used) × (used ≤ length piece) × Short (h ++ take (used - 1) piece) × Whole (h ++ take used piece) × Takes w (h ++ take used piece) (Ok m) v k
  Arrives w h piece (Err f) v k = (used : ℕ) × (0 < used) × (used ≤ length piece) × Short (h ++ take (used - 1) piece) × Ends w (h ++ take used piece) f v k

  -- what comes of a piece, wherever the stream was cut before it: all of it is taken in; or its front, and a message; or all, and a fault
  abbrev pub Nexts : Receiver → (piece : List ℕ) → Result (Option (M × ℕ)) fault.Fault → Receiver → Type 0
  Nexts r piece (Ok None) v = (s : Secret) (g : Got) → Is r s g → Reached s code.known g piece v g.taken None
  Nexts r piece (Ok (Some (m, used))) v = (0 < used) × (used ≤ length piece) × ((s : Secret) (g : Got) → Is r s g → Reached s code.known g (take used piece) v (g.taken ++ inside_of code m ∷ []) None)
  Nexts r piece (Err f) v = (s : Secret) (g : Got) → Is r s g → Reached s code.known g piece v g.taken (Some f)
