-- A stream of sealed messages, byte by byte: what is taken of it, and the fault at which it ends. Assumes nothing.
use Rattle.std.specs.Prelude.{ℕ, ◌+◌, ◌^◌, Bool, true, false, cond, List, [], ◌∷◌, ◌++◌, length, Some, None, Option, ◌==◌, nat_le, nat_lt}
use Rattle.wire.specs.declared.fault.Fault.{Fault}
use Rattle.wire.specs.declared.fault.Fault.TheVariants.{Length, Tag, Malformed}
use Rattle.seal.specs.declared.secret.Secret.{Secret}
use Rattle.seal.specs.Frames.{body_of, largest, opened, size_at, tag, tag_of}

-- number: how many messages are taken; held: the bytes behind the last of them; taken: their insides; fault: why nothing more is taken
pub record Got : Type 0 where
  pub number : ℕ
  pub held : List ℕ
  pub taken : List (List ℕ)
  pub fault : Option Fault

abbrev pub got : ℕ → List ℕ → List (List ℕ) → Option Fault → Got
got n h t f = record { number = n; held = h; taken = t; fault = f }

abbrev pub start : Got
start = got 0 [] [] None

-- whether two lists of bytes are the same
unfoldable pub same : List ℕ → List ℕ → Bool
same [] [] = true
same [] (y ∷ ys) = false
same (x ∷ xs) [] = false
same (x ∷ xs) (y ∷ ys) = cond (x == y) (same xs ys) false

-- by the length that the bytes say: too long, or all there
abbrev pub is_long : List ℕ → Bool
is_long h = cond (nat_lt (length h) 2) false (nat_lt largest (size_at h))

abbrev pub is_whole : List ℕ → Bool
is_whole h = cond (nat_lt (length h) 2) false (nat_le (size_at h + 18) (length h))

-- its number can be, and its tag is right
unfoldable pub is_right : Secret → ℕ → List ℕ → Bool
is_right s n f = cond (nat_lt n (2 ^ 64)) (same (tag_of f) (tag s n (body_of f))) false

module _ (s : Secret) (known : List ℕ → Bool) where
  abbrev pub fails : Got → Fault → Got
  fails g f = got g.number [] g.taken (Some f)

  -- an inside that is no message is a fault
  abbrev pub read : Got → List ℕ → Got
  read g x = cond (known x) (got (g.number + 1) [] (g.taken ++ x ∷ []) None) (fails g Malformed)

  -- a whole message
  abbrev pub whole : Got → List ℕ → Got
  whole g f = cond (is_right s g.number f) (read g (opened s g.number f)) (fails g Tag)

  -- so many bytes are held now
  abbrev pub arrived : Got → List ℕ → Got
  arrived g h = cond (is_long h) (fails g Length) (cond (is_whole h) (whole g h) (got g.number h g.taken None))

  -- one more byte; after a fault nothing is taken
  abbrev pub step_in : Option Fault → Got → ℕ → Got
  step_in None g b = arrived g (g.held ++ b ∷ [])
  step_in (Some f) g b = g

  abbrev pub step : Got → ℕ → Got
  step g b = step_in g.fault g b

  -- all bytes of a list, one by one
  unfoldable pub feed : Got → List ℕ → Got
  feed g [] = g
  feed g (b ∷ bs) = feed (step g b) bs

-- the stream ends: inside a message that is a fault
abbrev pub end_in : Option Fault → List ℕ → Option Fault
end_in (Some f) h = Some f
end_in None [] = None
end_in None (b ∷ bs) = Some Length

abbrev pub ending : Got → Option Fault
ending g = end_in g.fault g.held
