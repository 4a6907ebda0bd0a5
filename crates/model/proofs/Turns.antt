-- What a message and a turn can do to a channel of the server, case by case. Assumes nothing.
use Rattle.std.proofs.Common.{◌≡◌, ℕ, ◌<◌, ◌≤◌, Bool, true, false, cond, not, ◌&&◌, ◌||◌, eqb, ltb, leb, ◌⊎◌, List, [], length, Ok, Err, Result, sym, refl, subst, inl, inr, arith}
use Rattle.std.proofs.lemmas.Bool.{or_cases, or_parts, not-false, ltb-false, ltb-true, leb-true, leb-false}
use Rattle.model.specs.Messages.{Rules, Request, Run, Input, OutputCredit, Eof, Close, Fault, Does, Reads, Writes, Ends, GoesOn, Programs, is_some}
use Rattle.model.specs.Server.{ServerChannel, came_in, may_send, no_more, forgot, hear_kept, hear_at, wrote_more, read_more, ended, counted, portion, is_part, Turned, doing, drained_by, turn_in}
use Rattle.model.specs.Server as server
use Rattle.model.specs.History.{IsImpossible}

module _ {A F : Type 0} where
  pub ok_same : (x y : A) → ◌≡◌ {A = Result A F} (Ok x) (Ok y) → x ≡ y
  ok_same x y e = cc

  pub err-never : (f : F) (y : A) → ◌≡◌ {A = Result A F} (Err f) (Ok y) → ⊥
  err-never f y e = let z : ◌≡◌ {A = ℕ} 0 1 = cc in omega arith

  -- a test that would have been a fault did not hold
  pub no-fault : (b : Bool) (f : F) (o : Result A F) (y : A) → cond b (Err f) o ≡ Ok y → (b ≡ false) × (o ≡ Ok y)
  no-fault true f o y e = absurd (err-never f y e)
  no-fault false f o y e = (refl, e)

module _ {S : Type 0} where
  -- what a message leaves of a channel
  pub data Hears (x : ServerChannel S) : ServerChannel S → Type 0 where
    dropped : Hears x x
    input : (bs : List ℕ) → x.forgotten ≡ false → x.eof ≡ false → Hears x (came_in bs x)
    credit : (n : ℕ) → x.forgotten ≡ false → Hears x (may_send n x)
    eof : x.forgotten ≡ false → x.eof ≡ false → Hears x (no_more x)
    close : x.forgotten ≡ false → x.said ≡ true → Hears x (forgot x)

  pub hears : (r : Rules) (m : Request) (x y : ServerChannel S) → hear_at r m x ≡ Ok y → Hears x y
  hears r m x y = go x.forgotten refl
    where
      close-by : (b : Bool) (f : Fault) → x.forgotten ≡ false → x.said ≡ b → cond b (Ok (forgot x)) (Err f) ≡ Ok y → Hears x y
      close-by true f a b e = subst (Hears x) (ok_same (forgot x) y e) (close a b)
      close-by false f a b e = absurd (err-never f y e)

      kept : (m : Request) → x.forgotten ≡ false → hear_kept r m x ≡ Ok y → Hears x y
      kept (Run k) a e = absurd (err-never _ y e)
      kept (Input bs) a e =
          let (b, f) = no-fault x.eof _ _ y e in
          subst (Hears x) (ok_same (came_in bs x) y (no-fault _ _ _ y f).1) (input bs a b)
      kept (OutputCredit n) a e = subst (Hears x) (ok_same (may_send n x) y (no-fault _ _ _ y e).1) (credit n a)
      kept Eof a e = let (b, f) = no-fault x.eof _ _ y e in subst (Hears x) (ok_same (no_more x) y f) (eof a b)
      kept Close a e = close-by x.said _ a refl e

      go : (b : Bool) → x.forgotten ≡ b → cond b (Ok x) (hear_kept r m x) ≡ Ok y → Hears x y
      go true a e = subst (Hears x) (ok_same x y e) dropped
      go false a e = kept m a e

module _ {S E : Type 0} (r : Rules) (p : Programs S E) where
  -- why a program's turn does nothing: it reads where nothing is, or writes while more is written than may be sent
  pub data Waits (up : Bool) (e : E) (x : ServerChannel S) : Type 0 where
    starved : (k : ℕ) → p.does e x.state ≡ Reads k → is_part r k ≡ true → length (portion k x) ≡ 0 → x.eof ≡ false → Waits up e x
    blocked : (bs : List ℕ) → p.does e x.state ≡ Writes bs → is_part r (length bs) ≡ true → up ≡ true → x.may < length x.wrote → Waits up e x

  -- what a program's turn leaves of its channel, but for the count of turns
  pub data Acts (up : Bool) (e : E) (x : ServerChannel S) : ServerChannel S → Type 0 where
    waits : Waits up e x → Acts up e x x
    reads : (k : ℕ) → p.does e x.state ≡ Reads k → is_part r k ≡ true → (length (portion k x) ≡ 0 → x.eof ≡ true) → Acts up e x (read_more (length (portion k x)) (p.next e x.state (portion k x) (eqb (length (portion k x)) 0)) x)
    writes : (bs : List ℕ) → p.does e x.state ≡ Writes bs → is_part r (length bs) ≡ true → (up ≡ true → length x.wrote ≤ x.may) → Acts up e x (wrote_more bs (p.next e x.state [] false) x)
    goes_on : p.does e x.state ≡ GoesOn → Acts up e x (wrote_more [] (p.next e x.state [] false) x)
    ends : (n : ℕ) → p.does e x.state ≡ Ends n → n ≤ 255 → Acts up e x (ended n x)
    breaks : IsImpossible r (p.does e x.state) → Acts up e x (ended 255 x)

  pub acts : (up : Bool) (e : E) (x : ServerChannel S) (d : Does) → p.does e x.state ≡ d → Acts up e x (doing r p up e x d).channel
  acts up e x (Reads k) h = go (is_part r k) refl (ltb 0 (length (portion k x)) || x.eof) refl
    where
      told : (ltb 0 (length (portion k x)) || x.eof) ≡ true → length (portion k x) ≡ 0 → x.eof ≡ true
      told a b = tell (or_cases (ltb 0 (length (portion k x))) x.eof a)
        where
          tell : (ltb 0 (length (portion k x)) ≡ true) ⊎ (x.eof ≡ true) → x.eof ≡ true
          tell (inl c) = absurd (let d = ltb-true 0 (length (portion k x)) c in omega arith)
          tell (inr c) = c

      go : (a : Bool) → is_part r k ≡ a → (b : Bool) → (ltb 0 (length (portion k x)) || x.eof) ≡ b → Acts up e x (cond a (cond b (server.reads p e x (portion k x)) (server.turned e x 0)) (server.ends p e x 255)).channel
      go true a true b = reads k h a (told b)
      go true a false b =
          let (c, d) = or_parts (ltb 0 (length (portion k x))) x.eof b in
          waits (starved k h a (let l = ltb-false 0 (length (portion k x)) c in omega arith) d)
      go false a b c = breaks (subst (IsImpossible r) (sym h) a)
  acts up e x (Writes bs) h = go (is_part r (length bs)) refl (not up || leb (length x.wrote) x.may) refl
    where
      room : (u : Bool) → (not u || leb (length x.wrote) x.may) ≡ true → u ≡ true → length x.wrote ≤ x.may
      room true a b = leb-true (length x.wrote) x.may a
      room false a b = absurd (let z : ◌≡◌ {A = ℕ} 0 1 = cc in omega arith)

      go : (a : Bool) → is_part r (length bs) ≡ a → (b : Bool) → (not up || leb (length x.wrote) x.may) ≡ b → Acts up e x (cond a (cond b (server.writes p e x bs) (server.turned e x 0)) (server.ends p e x 255)).channel
      go true a true b = writes bs h a (room up b)
      go true a false b =
          let (c, d) = or_parts (not up) (leb (length x.wrote) x.may) b in
          waits (blocked bs h a (not-false up c) (leb-false (length x.wrote) x.may d))
      go false a b c = breaks (subst (IsImpossible r) (sym h) a)
  acts up e x (Ends n) h = go (leb n 255) refl
    where
      go : (a : Bool) → leb n 255 ≡ a → Acts up e x (ended (cond a n 255) x)
      go true a = ends n h (leb-true n 255 a)
      go false a = breaks (subst (IsImpossible r) (sym h) (leb-false n 255 a))
  acts up e x GoesOn h = goes_on h

  -- what a program's turn leaves of its channel
  pub data Takes (e : E) (x : ServerChannel S) : Bool → ServerChannel S → Type 0 where
    whole : {y : ServerChannel S} → Acts true e x y → Takes e x true y
    counts : {y : ServerChannel S} → Acts false e x y → ((is_some y.exit ≡ true) ⊎ (1 < y.left)) → Takes e x false (counted y)
    runs_out : {y : ServerChannel S} → Acts false e x y → is_some y.exit ≡ false → Takes e x false (ended 255 (counted y))

  pub takes : (e : E) (x : ServerChannel S) (up : Bool) → Takes e x up (turn_in r p up e x).channel
  takes e x true = whole (acts true e x _ refl)
  takes e x false = go (doing r p false e x (p.does e x.state)) (acts false e x _ refl)
    where
      go : (y : Turned S E) → Acts false e x y.channel → Takes e x false (server.drained p y).channel
      go y h = by (is_some y.channel.exit) refl (leb y.channel.left 1) refl
        where
          by : (a : Bool) → is_some y.channel.exit ≡ a → (b : Bool) → leb y.channel.left 1 ≡ b → Takes e x false (drained_by p y (not a && b)).channel
          by true a b c = counts h (inl a)
          by false a true b = runs_out h a
          by false a false b = counts h (inr (leb-false y.channel.left 1 b))
