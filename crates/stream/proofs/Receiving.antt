-- What a receiver makes of a piece.
use Rattle.std.proofs.Common.{◌≡◌, ℕ, ◌+◌, ◌-◌, ◌<◌, ◌≤◌, Bool, true, false, List, [], ◌∷◌, ◌++◌, length, take, drop, Some, None, Ok, Err, Option, Result, sym, ap, ◌∙◌, subst, inl, inr, arith, MatchResult}
use Rattle.std.specs.Result.{result_err}
use Rattle.std.proofs.lemmas.List.{drop_at, length-drop, length-take-le, take-append-drop, take_at}
use Rattle.wire.specs.declared.fault.Fault as fault
use Rattle.wire.specs.declared.fault.Fault.TheVariants.{Length, Tag, Malformed}
use Rattle.wire.specs.Codes.{Code, IsSendable, inside_of}
use Rattle.seal.specs.declared.secret.Secret.{Secret}
use Rattle.seal.specs.Frames.{Whole, opened, text_of}
use Rattle.seal.specs.Ways.{Opens, Stands}
use Rattle.seal.specs.declared.way.Way.{Way}
use Rattle.seal.proofs.Sealing.{length-turned}
use Rattle.stream.specs.Streams.{Got, arrived, feed, got, whole}
use Rattle.stream.specs.Readers.{Short, held_of}
use Rattle.stream.specs.Receivers.{Arrives, Ends, Is, Nexts, Reached, Takes}
use Rattle.stream.specs.declared.receiver.Receiver.{Receiver}
use Rattle.stream.proofs.Feeds.{at_last, at_long, at-whole, feed-append, feed-fault, quiet, whole-malformed, whole-taken, whole-wrong}

-- the inside of a message that was opened in place
inside-opened : (s : Secret) (n size : ℕ) (h h1 : List ℕ) → size + 18 ≡ length h → h1 ≡ take 2 h ++ (opened s n h ++ drop (2 + size) h)
    → take size (drop 2 h1) ≡ opened s n h
inside-opened s n size h h1 e e1 =
    let lt : length (text_of h) ≡ size = length-take-le (length h - 18) (drop 2 h) (omega (arith, length-drop 2 h)) ∙ omega arith in
    let lo : length (opened s n h) ≡ size = length-turned s n (text_of h) ∙ lt in
    ap (λ (v : List ℕ). take size (drop 2 v)) e1
    ∙ ap (take size) (drop_at (take 2 h) (opened s n h ++ drop (2 + size) h) 2 (length-take-le 2 h (omega arith)))
    ∙ take_at (opened s n h) (drop (2 + size) h) size lo

module _ {M : Type 0} (code : Code M) where
  pub takes-is : ((m : code.Said) → code.sendable m → code.known (code.written m) ≡ true) → (w v : Way) (h h1 h2 x : List ℕ) (size : ℕ) (r : Result M fault.Fault) → Opens w h (Ok size) v h1
      → x ≡ take size (drop 2 h1)
      → MatchResult r (λ m. IsSendable code m × (inside_of code m ≡ x)) (λ f. (f ≡ Malformed) × (code.known x ≡ false))
      → h2 ≡ []
      → Takes code w h r v h2
  takes-is law w v h h1 h2 x size (Ok m) o ex c e2 = (
    e2,
    λ s n st.
        let p = o.2 s n st in
        let ei : x ≡ opened s n h = ex ∙ inside-opened s n size h h1 o.1 p.1 in
        (p.0, c.1 ∙ ei, ap code.known (sym (c.1 ∙ ei)) ∙ law (code.said m) c.0, p.2),
  )
  takes-is law w v h h1 h2 x size (Err Length) o ex c e2 =
      let q : Length ≡ Malformed = c.0 in absurd cc
  takes-is law w v h h1 h2 x size (Err Tag) o ex c e2 =
      let q : Tag ≡ Malformed = c.0 in absurd cc
  takes-is law w v h h1 h2 x size (Err Malformed) o ex c e2 = λ s n st.
      let p = o.2 s n st in
      let ei : x ≡ opened s n h = ex ∙ inside-opened s n size h h1 o.1 p.1 in (p.0, ap code.known (sym ei) ∙ c.1)

module _ (s : Secret) (known : List ℕ → Bool) (g : Got) where
  reached : (bytes : List ℕ) (v : Receiver) (x : Got) → feed s known g bytes ≡ x → Is v s x → Reached s known g bytes v x.taken x.fault
  reached bytes v x e i =
      record { is = subst (λ (y : Got). Is v s y) (sym e) i; taken = ap (λ (y : Got). y.taken) e; fault = ap (λ (y : Got). y.fault) e }

  base : g.fault ≡ None → g ≡ got g.number g.held g.taken None
  base e = λ i. record { number = g.number; held = g.held; taken = g.taken; fault = e i }

  faulted : (v : Receiver) (n : ℕ) (h : List ℕ) (t : List (List ℕ)) (f : fault.Fault) → v.fault ≡ Some f → Is v s (got n h t (Some f))
  faulted v n h t f e =
      record { fault = e; up = λ q. absurd cc }

  held-on : (r v : Receiver) (piece : List ℕ) → Is r s g → r.fault ≡ None → v.way ≡ r.way → held_of v.reader ≡ held_of r.reader ++ piece
      → Short (held_of v.reader)
      → v.fault ≡ None
      → Reached s known g piece v g.taken None
  held-on r v piece i rf ew ek sk vf =
      let e : g.fault ≡ None = sym i.fault ∙ rf in
      let u = i.up e in
      let eh : held_of v.reader ≡ g.held ++ piece = ek ∙ ap (λ (x : List ℕ). x ++ piece) u.held in
      reached piece v (got g.number (g.held ++ piece) g.taken None)
      (ap (λ (x : Got). feed s known x piece) (base e) ∙ quiet s known g.number g.held g.taken piece (subst Short eh sk))
      (record { fault = vf; up = λ _. record { way = subst (λ (w : Way). Stands w s g.number) (sym ew) u.way; held = eh } })

  -- up to the byte that makes a message whole, or known to be too long
  up_to : (h1 piece : List ℕ) (used : ℕ) → g.fault ≡ None → 0 < used → used ≤ length piece → h1 ≡ g.held ++ take used piece
      → Short (g.held ++ take (used - 1) piece)
      → feed s known g (take used piece) ≡ arrived s known (got g.number (g.held ++ take (used - 1) piece) g.taken None) h1
  up_to h1 piece used e l u eh sh =
      ap (λ (x : Got). feed s known x (take used piece)) (base e) ∙ at_last s known g.number g.held g.taken piece used l u sh
      ∙ ap (arrived s known (got g.number (g.held ++ take (used - 1) piece) g.taken None)) (sym eh)

  -- a fault ends the stream, whatever comes behind it
  ended : (v : Receiver) (piece : List ℕ) (used : ℕ) (f : fault.Fault) → feed s known g (take used piece) ≡ got g.number [] g.taken (Some f)
      → v.fault ≡ Some f
      → Reached s known g piece v g.taken (Some f)
  ended v piece used f e vf =
      reached piece v (got g.number [] g.taken (Some f))
      (ap (feed s known g) (sym (take-append-drop used piece)) ∙ feed-append s known g (take used piece) (drop used piece)
      ∙ ap (λ (x : Got). feed s known x (drop used piece)) e
      ∙ feed-fault s known g.number [] g.taken f (drop used piece))
      (faulted v g.number [] g.taken f vf)

  pub next-again : (r : Receiver) (piece : List ℕ) (f : fault.Fault) → Is r s g → r.fault ≡ Some f → Reached s known g piece r g.taken (Some f)
  next-again r piece f i rf =
      let e : g.fault ≡ Some f = sym i.fault ∙ rf in
      let b : g ≡ got g.number g.held g.taken (Some f) = (λ j. record { number = g.number; held = g.held; taken = g.taken; fault = e j }) in
      reached piece r (got g.number g.held g.taken (Some f))
      (ap (λ (x : Got). feed s known x piece) b ∙ feed-fault s known g.number g.held g.taken f piece)
      (faulted r g.number g.held g.taken f rf)

module _ {M : Type 0} (code : Code M) where
  module _ (s : Secret) (g : Got) where
    whole-fault : (w v : Way) (h h1 k : List ℕ) (f : fault.Fault) → Stands w s g.number → Whole h1 → Takes code w h1 (Err f) v k
        → whole s code.known (got g.number h g.taken None) h1 ≡ got g.number [] g.taken (Some f)
    whole-fault w v h h1 k Length st wh t = absurd (t wh)
    whole-fault w v h h1 k Tag st wh t = whole-wrong s code.known g.number h g.taken h1 (t s g.number st)
    whole-fault w v h h1 k Malformed st wh t = let q = t s g.number st in whole-malformed s code.known g.number h g.taken h1 q.0 q.1

    -- the bytes at which the stream ends
    ends : (w v : Way) (h h1 k : List ℕ) (f : fault.Fault) → Stands w s g.number → Ends code w h1 f v k
        → arrived s code.known (got g.number h g.taken None) h1 ≡ got g.number [] g.taken (Some f)
    ends w v h h1 k f st (inl c) = at_long s code.known g.number h g.taken h1 c.0 c.1 ∙ ap (λ (x : fault.Fault). got g.number [] g.taken (Some x)) (sym c.2)
    ends w v h h1 k f st (inr c) = at-whole s code.known g.number h g.taken h1 c.0 ∙ whole-fault w v h h1 k f st c.0 c.1

    fault-reached : (r v : Receiver) (w : Way) (k piece : List ℕ) (used : ℕ) (f : fault.Fault) → Is r s g → r.fault ≡ None → 0 < used → used ≤ length piece
        → Short (held_of r.reader ++ take (used - 1) piece)
        → Ends code r.way (held_of r.reader ++ take used piece) f w k
        → v.fault ≡ Some f
        → Reached s code.known g piece v g.taken (Some f)
    fault-reached r v w k piece used f i rf l0 l1 sh en vf =
        let e : g.fault ≡ None = sym i.fault ∙ rf in
        let u = i.up e in
        let sh' : Short (g.held ++ take (used - 1) piece) = subst (λ (x : List ℕ). Short (x ++ take (used - 1) piece)) u.held sh in
        let h1 : List ℕ = held_of r.reader ++ take used piece in
        ended s code.known g v piece used f
        (up_to s code.known g h1 piece used e l0 l1 (ap (λ (x : List ℕ). x ++ take used piece) u.held) sh'
        ∙ ends r.way w (g.held ++ take (used - 1) piece) h1 k f u.way en)
        vf

    message-reached : (r v : Receiver) (piece : List ℕ) (used : ℕ) (m : M) → Is r s g → r.fault ≡ None → 0 < used → used ≤ length piece
        → Short (held_of r.reader ++ take (used - 1) piece)
        → Whole (held_of r.reader ++ take used piece)
        → Takes code r.way (held_of r.reader ++ take used piece) (Ok m) v.way (held_of v.reader)
        → v.fault ≡ None
        → Reached s code.known g (take used piece) v (g.taken ++ inside_of code m ∷ []) None
    message-reached r v piece used m i rf l0 l1 sh wh t vf =
        let e : g.fault ≡ None = sym i.fault ∙ rf in
        let u = i.up e in
        let sh' : Short (g.held ++ take (used - 1) piece) = subst (λ (x : List ℕ). Short (x ++ take (used - 1) piece)) u.held sh in
        let h0 : List ℕ = g.held ++ take (used - 1) piece in
        let h1 : List ℕ = held_of r.reader ++ take used piece in
        let q = t.1 s g.number u.way in
        reached s code.known g (take used piece) v (got (g.number + 1) [] (g.taken ++ inside_of code m ∷ []) None)
        (up_to s code.known g h1 piece used e l0 l1 (ap (λ (x : List ℕ). x ++ take used piece) u.held) sh'
        ∙ at-whole s code.known g.number h0 g.taken h1 wh
        ∙ whole-taken s code.known g.number h0 g.taken h1 (inside_of code m) q.0 q.1 (ap code.known q.1 ∙ q.2))
        (record { fault = vf; up = λ _. record { way = q.3; held = t.0 } })

  pub nexts-is : (r v : Receiver) (piece : List ℕ) (o : Result (Option (M × ℕ)) fault.Fault) → r.fault ≡ None → v.fault ≡ result_err o
      → Arrives code r.way (held_of r.reader) piece o v.way (held_of v.reader)
      → Nexts code r piece o v
  nexts-is r v piece (Ok None) rf vf a = λ s g i. held-on s code.known g r v piece i rf a.0 a.1 a.2 vf
  nexts-is r v piece (Ok (Some (m, used))) rf vf a = (a.0, a.1, λ s g i. message-reached s g r v piece used m i rf a.0 a.1 a.2 a.3 a.4 vf)
  nexts-is r v piece (Err f) rf vf a = λ s g i. fault-reached s g r v v.way (held_of v.reader) piece a.0 f i rf a.1 a.2 a.3 a.4 vf
